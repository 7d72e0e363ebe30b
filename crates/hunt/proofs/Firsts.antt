-- The laws of the first code of a hunt that passes a test.
use Rattle.std.proofs.Common.{◌≡◌, ℕ, zero, suc, ◌+◌, ◌<◌, ◌≤◌, Bool, true, false, Some, None, Option, map, sym, refl, ap, ◌∙◌, ⊎_elim, arith}
use Rattle.std.proofs.lemmas.Bool.{cases_lt}
use Rattle.std.specs.Option.{MatchOption}
use Rattle.std.specs.List.{range_with_len, slice_get}
use Rattle.std.proofs.lemmas.Option.{slice_get_read, slice_get_past}
use Rattle.std.proofs.lemmas.List.Sums.{position_or_len_is}
use Rattle.std.proofs.lemmas.List.Folds.{find_at}
use Rattle.std.proofs.lemmas.List.FromFn.{length-map-range_with_len, get_or-map-range_with_len}
use Rattle.hunt.specs.declared.side.Side.{Side}
use Rattle.hunt.specs.Orders.{Lawful}
use Rattle.hunt.specs.First.{hunted, Found, NonePasses}

module _ (order : ℕ → ℕ) (test : ℕ → Bool) (n : ℕ) where
  -- a test passes where it is known to, and does not where that is known
  pub found : (r : Option ℕ) {Yes No : ℕ → Type 0} → MatchOption r ((q : ℕ) → q < n → No q) (λ code. (p : ℕ) × (p < n) × (order p ≡ code) × Yes code × ((q : ℕ) → q < p → No q)) → ((code : ℕ) → Yes code → test code ≡ true) → ((q : ℕ) → No q → test (order q) ≡ false) → Found order test n r
  found None f hits fails = λ q l. fails q (f q l)
  found (Some code) (p, l, e, y, misses) hits fails = (p, l, e, hits code y, λ q h. fails q (misses q h))

  -- a hunt whose codes do not pass before a position stops there if that one passes, or if there is none
  stops : (p : ℕ) → p ≤ n → ((q : ℕ) → q < p → test (order q) ≡ false) → (p < n → test (order p) ≡ true) → hunted order test n ≡ slice_get (map order (range_with_len 0 n)) p
  stops p h misses hit =
      let codes = map order (range_with_len 0 n) in
      let long = length-map-range_with_len order 0 n in
      let at = λ (q : ℕ) (l : q < n). ap test (get_or-map-range_with_len order 0 n q q 0 l (omega arith)) in
      find_at test codes ∙ ap (slice_get codes) (position_or_len_is test codes p 0 (omega arith) (λ q l. at q (omega arith) ∙ misses q l) (λ l. at p (omega arith) ∙ hit (omega arith)))

  -- the code that was found is the first that passes
  pub value : (r : Option ℕ) → Found order test n r → r ≡ hunted order test n
  value None f = sym (stops n (omega arith) f (λ l. absurd (omega arith)) ∙ slice_get_past _ n (omega (arith, length-map-range_with_len order 0 n)))
  value (Some code) (p, l, e, t, misses) =
      let long = length-map-range_with_len order 0 n in
      let at = get_or-map-range_with_len order 0 n p p code l (omega arith) in
      sym (stops p (omega arith) misses (λ _. rw e t) ∙ slice_get_read _ n p code (sym long) l (sym (at ∙ e)))

  -- from a position on, where no code before it passes, there is an answer
  answered : (left p : ℕ) → p + left ≡ n → ((q : ℕ) → q < p → test (order q) ≡ false) → (r : Option ℕ) × Found order test n r
  answered zero p e before = (None, λ q l. before q (omega arith))
  answered (suc left) p e before = at (test (order p)) refl (λ fails. answered left (p + 1) (omega arith) (one_more fails))
    where
      one_more : test (order p) ≡ false → (q : ℕ) → q < p + 1 → test (order q) ≡ false
      one_more fails q l = ⊎_elim (before q) (λ high. let is : q ≡ p = omega arith in rw is fails) (cases_lt q p)

      at : (b : Bool) → test (order p) ≡ b → (test (order p) ≡ false → (r : Option ℕ) × Found order test n r) → (r : Option ℕ) × Found order test n r
      at true passes later = (Some (order p), (p, omega arith, refl, passes, before))
      at false fails later = later fails

  -- the first that passes is what a hunt finds
  pub hunted_is_found : (r : Option ℕ) → r ≡ hunted order test n → Found order test n r
  hunted_is_found r e = let s = answered n 0 (omega arith) (λ q l. absurd (omega arith)) in rw (e ∙ sym (value s.0 s.1)) s.1

-- under a lawful order a hunt finds none exactly where no code passes
module _ (order : ℕ → Side → ℕ → ℕ) (lawful : Lawful order) (side : Side) (test : ℕ → Bool) (n : ℕ) where
  pub exactly : (r : Option ℕ) → Found (order n side) test n r → (r ≡ None → NonePasses test n) × (NonePasses test n → r ≡ None)
  exactly None f = (λ e code h. let s = lawful.once n side code h in ap test (sym s.there) ∙ f s.position s.within, λ all. refl)
  exactly (Some code) (p, l, e, t, misses) = (λ e. absurd cc, λ all. let no = all code (rw e at (lawful.below n side p l)) in absurd cc)

  pub hunted_exactly : (r : Option ℕ) → r ≡ hunted (order n side) test n → (r ≡ None → NonePasses test n) × (NonePasses test n → r ≡ None)
  hunted_exactly r e = exactly r (hunted_is_found (order n side) test n r e)
