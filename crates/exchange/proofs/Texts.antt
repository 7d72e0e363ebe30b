-- Text that is written code by code.
-- By recursion, as its definition is: in the library's words that would be no plainer.
use Rattle.std.proofs.Common.{◌≡◌, ℕ, zero, suc, ◌+◌, ◌++◌, codes, decimal, append_assoc, append-nil, arith, rules}
use Rattle.exchange.specs.Texts.{codes_text}

-- one code more at the end
codes_suc : (order : ℕ → ℕ) (p n : ℕ) → codes_text order p (suc n) ≡ codes_text order p n ++ (codes " " ++ decimal (order (p + n)))
codes_suc order p zero = search (rules, append-nil)
codes_suc order p (suc n) = grind (arith, codes_suc order (p + 1) n, append_assoc)

pub codes_more : (order : ℕ → ℕ) (n code : ℕ) → order n ≡ code → codes_text order 0 n ++ (codes " " ++ decimal code) ≡ codes_text order 0 (n + 1)
codes_more order n code e = grind (arith, codes_suc order 0 n, e)
