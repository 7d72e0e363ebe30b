-- What messages and orders can carry.
-- no_digits, digits_of, is_digit, all_digits, valid_digits: the digits of a called number
-- valid_cause: a cause
-- valid_range: a span and its status bits
use Rattle.std.specs.Prelude.{ℕ, ◌^◌, min, Bool, ◌&&◌, List, take, replicate, nat_le, nat_lt}
use Rattle.std.specs.List.{list_all}
use Rattle.signal.specs.declared.digits.Digits.{Digits}
use Rattle.signal.specs.declared.range.Range.{Range}

-- nothing was called
abbrev pub no_digits : Digits
no_digits = record { count = 0; values = replicate 16 0 }

-- the digits called; a count over 16 counts as 16
abbrev pub digits_of : Digits → List ℕ
digits_of d = take (min d.count 16) d.values

-- a digit is at most 15
abbrev pub is_digit : ℕ → Bool
is_digit d = nat_le d 15

-- all of them are digits
abbrev pub all_digits : List ℕ → Bool
all_digits ds = list_all is_digit ds

-- 1 to 16 digits, none over 15
abbrev pub valid_digits : Digits → Bool
valid_digits d = (nat_le 1 d.count && nat_le d.count 16) && all_digits (digits_of d)

-- a cause is 1 to 127
abbrev pub valid_cause : ℕ → Bool
valid_cause c = nat_le 1 c && nat_le c 127

-- a span of 1 to 32, and no status bit beyond it
abbrev pub valid_range : Range → Bool
valid_range r = (nat_le 1 r.span && nat_le r.span 32) && nat_lt r.status (2 ^ r.span)
