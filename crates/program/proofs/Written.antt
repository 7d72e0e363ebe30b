-- What is written to an output, one part after another.
use Rattle.std.proofs.Common.{◌≡◌, ℕ, List, [], ◌++◌, Option, None, Some, sym, ap, ◌∙◌, append_assoc, append-nil}
use Rattle.std.specs.Io.KnownBytes.{Appends}
use Rattle.std.specs.Fmt.{WritesInCalls}
use Rattle.std.proofs.lemmas.Fmt.{contents_after_writes}
use Rattle.arrayvec.specs.ArrayString.{ArrayString}

pub writes_nothing : (o : Option (List ℕ)) → Appends o o []
writes_nothing None = tt
writes_nothing (Some xs) = sym (append-nil xs)

pub writes_both : (o p q : Option (List ℕ)) (x y : List ℕ) → Appends o p x → Appends p q y → Appends o q (x ++ y)
writes_both None p q x y f g = tt
writes_both (Some a) None q x y f g = absurd f
writes_both (Some a) (Some b) None x y f g = absurd g
writes_both (Some a) (Some b) (Some c) x y f g = g ∙ ap (λ (t : List ℕ). t ++ y) f ∙ append_assoc a x y

-- what was written to an empty string in pieces is what it holds
pub holds_pieces : (s t : ArrayString) (x : List ℕ) → s.bytes ≡ [] → WritesInCalls (λ (v : ArrayString) (y : List ℕ) (w : ArrayString). w.bytes ≡ v.bytes ++ y) s x t → t.bytes ≡ x
holds_pieces s t x e h =
    contents_after_writes (λ (v : ArrayString) (y : List ℕ) (w : ArrayString). w.bytes ≡ v.bytes ++ y) (λ v. v.bytes) (λ v y w f. f) s x t h ∙ ap (λ (y : List ℕ). y ++ x) e
