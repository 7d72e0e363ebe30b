use Rattle.std.proofs.Common.{rules, tests}
use Rattle.std.proofs.lemmas.Iterator.{YieldsList-from_slice}
use Rattle.std.proofs.lemmas.Iterator.Search.{all_from_yields_List}
use Rattle.signal.specs.Contents.{digits_of, is_digit}
use Rattle.signal.proofs.digits.Digits.is_valid.Goals as goal

pub returns-then-self-le-DIGITS : goal.returns-then-self-le-DIGITS
returns-then-self-le-DIGITS c =
    let all = all_from_yields_List is_digit _ _ c.all.result c.all.ensures.ran (YieldsList-from_slice (digits_of c.args.self.now) cc) (λ x b q k. search (rules, tests)) in
    search (rules, all)
