-- Hunt orders: which of n codes stands at a position.
-- Stands, Lawful: the law of hunt orders
-- code_at: the question, at every position
-- straight, own_half_first: the two orders
use Rattle.std.specs.Prelude.{◌≡◌, ℕ, ◌+◌, ◌-◌, ◌*◌, ◌/◌, ◌<◌, cond, Some, None, Option, nat_lt}
use Rattle.hunt.specs.declared.side.Side.{Side}
use Rattle.hunt.specs.declared.side.Side.TheVariants.{Even, Odd}

-- a code has one position below n, and no other
pub record Stands (at : ℕ → ℕ) (n code : ℕ) : Type 0 where
  pub position : ℕ
  pub within : position < n
  pub there : at position ≡ code
  pub only : (p : ℕ) → p < n → at p ≡ code → p ≡ position

-- a lawful order gives codes below n, and each of them has exactly one position
pub record Lawful (at : ℕ → Side → ℕ → ℕ) : Type 0 where
  pub below : (n : ℕ) (s : Side) (p : ℕ) → p < n → at n s p < n
  pub once : (n : ℕ) (s : Side) (code : ℕ) → code < n → Stands (at n s) n code

-- the code at a position; there is none at n or beyond
abbrev pub code_at : (ℕ → Side → ℕ → ℕ) → ℕ → Side → ℕ → Option ℕ
code_at order n side p = cond (nat_lt p n) (Some (order n side p)) None

-- up where the node controls the even codes, down where the odd ones
abbrev pub straight : ℕ → Side → ℕ → ℕ
straight n Even p = p
straight n Odd p = n - 1 - p

-- up the codes that the node controls, then down the others
abbrev pub own_half_first : ℕ → Side → ℕ → ℕ
own_half_first n Even p = cond (nat_lt p ((n + 1) / 2)) (2 * p) (2 * (n - 1 - p) + 1)
own_half_first n Odd p = cond (nat_lt p (n / 2)) (2 * p + 1) (2 * (n - 1 - p))
