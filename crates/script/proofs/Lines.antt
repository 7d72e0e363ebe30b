-- One line more at the end of a script.
-- By recursion, as the definitions are: in the library's words those would be no plainer.
use Rattle.std.specs.List.{list_all}
use Rattle.std.proofs.lemmas.List.Folds.{list_all-append}
use Rattle.reading.specs.declared.known.Known.{Known}
use Rattle.std.proofs.Common.{◌≡◌, ℕ, true, List, [], ◌∷◌, ◌++◌, sym, refl, ap, ◌∙◌, append_assoc, append-nil}
use Rattle.script.specs.Tallies.{Standing, after, after_all, fresh}
use Rattle.script.specs.Texts.{line_text, lines_text}
use Rattle.reading.specs.Lines.{Line, knows_line}

after_more : (ls : List Line) (l : Line) (s : Standing) → after_all (ls ++ l ∷ []) s ≡ after l (after_all ls s)
after_more [] l s = refl
after_more (x ∷ xs) l s = after_more xs l (after x s)

text_more : (ls : List Line) (l : Line) (s : Standing) → lines_text (ls ++ l ∷ []) s ≡ lines_text ls s ++ line_text l (after_all ls s)
text_more [] l s = append-nil (line_text l s)
text_more (x ∷ xs) l s =
    ap (λ (t : List ℕ). line_text x s ++ t) (text_more xs l (after x s)) ∙ sym (append_assoc (line_text x s) _ _)

-- how a script stands, and what it wrote, after a line more
pub stands_more : (ls : List Line) (l : Line) (s t : Standing) → s ≡ after_all ls fresh → t ≡ after l s → t ≡ after_all (ls ++ l ∷ []) fresh
stands_more ls l s t stood e = e ∙ ap (after l) stood ∙ sym (after_more ls l fresh)

pub writes_more : (ls : List Line) (l : Line) (s : Standing) (old new : List ℕ) → s ≡ after_all ls fresh → old ≡ lines_text ls fresh → new ≡ old ++ line_text l s → new ≡ lines_text (ls ++ l ∷ []) fresh
writes_more ls l s old new stood wrote e = e ∙ rw (wrote, stood) (sym (text_more ls l fresh))

-- the lines are known, and one more
pub knows_more : (known : Known) (ls : List Line) (l : Line) → list_all (knows_line known) ls ≡ true → knows_line known l ≡ true → list_all (knows_line known) (ls ++ l ∷ []) ≡ true
knows_more known ls l all one = list_all-append (knows_line known) ls (l ∷ []) ∙ rw (all, one) refl
