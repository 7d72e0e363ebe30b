-- The first code of a hunt that passes a test.
-- hunted: the first code that passes
-- FoundSuch: what is known of the codes up to the one that was found, each answered by true or by false
-- Found: the same, where a test answers
-- NonePasses: no code passes
-- marked: the test that a list of marks stands for
use Rattle.std.specs.Prelude.{◌≡◌, ℕ, ◌<◌, Bool, true, false, List, map, Option, slice_index_or}
use Rattle.std.specs.List.{find, range_with_len}
use Rattle.std.specs.Option.{MatchOption}

-- the first code that passes, of those at the positions below n
abbrev pub hunted : (ℕ → ℕ) → (ℕ → Bool) → ℕ → Option ℕ
hunted order test n = find test (map order (range_with_len 0 n))

-- a code that was found is answered by true and stands at a position below n, and each code at an earlier position is answered by false;
-- where none was found, the code of every position is answered by false
abbrev pub FoundSuch : (ℕ → ℕ) → (ℕ → Bool → Type 0) → ℕ → Option ℕ → Type 0
FoundSuch order answers n found =
    let none_before : ℕ → Type 0 = λ p. (q : ℕ) → q < p → answers (order q) false in
    MatchOption found (none_before n) (λ code. (p : ℕ) × (p < n) × (order p ≡ code) × answers code true × none_before p)

-- a code that was found passes and stands at a position below n, and no code at an earlier position passes;
-- where none was found, no code of any position passes
abbrev pub Found : (ℕ → ℕ) → (ℕ → Bool) → ℕ → Option ℕ → Type 0
Found order test = FoundSuch order (λ code b. test code ≡ b)

-- no code below n passes
abbrev pub NonePasses : (ℕ → Bool) → ℕ → Type 0
NonePasses test n = (code : ℕ) → code < n → test code ≡ false

-- a code is marked by its entry in a list; one beyond the end is not
abbrev pub marked : List Bool → ℕ → Bool
marked marks code = slice_index_or marks code false
