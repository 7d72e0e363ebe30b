use Rattle.std.proofs.Common.{◌≡◌, ℕ, List, [], ◌∷◌, ◌++◌, sym, ap, refl, ◌∙◌, append_assoc, append-nil, string_bytes}
use Rattle.script.specs.Tallies.{standing, fresh, after_all, tally_of}
use Rattle.script.specs.Texts.{lines_text, tally_text}
use Rattle.script.proofs.Lines.{knows_more, stands_more, writes_more}
use Rattle.program.proofs.Written.{writes_nothing, writes_both}
use Rattle.program.proofs.serve.answer.Goals as goal
use Rattle.program.proofs.serve.answer.Goals.{then-is_empty+in_ok-write_all, else-is_empty}

pub loop-init : goal.loop-init
loop-init g c = ([], refl, c.new-runner.ensures, [], writes_nothing _, c.new-text.ensures.bytes)

pub loop-preserved : goal.loop-preserved
loop-preserved g c =
    let before = c.loop.invariant in
    let line = c.in_ok-line.field-0 in
    let did = c.in_ok-line.ensures in
    let knows = knows_more c.args.known before.0 line before.1 did.known in
    let stands = stands_more before.0 line (standing c.loop.runner) (standing c.line.new.self) before.2 did.stands in
    let text = string_bytes c.line.new.out in
    let told : before.3 ++ text ≡ lines_text (before.0 ++ line ∷ []) fresh =
    writes_more before.0 line (standing c.loop.runner) (before.3 ++ string_bytes c.loop.text) _ before.2 before.5
    (ap (λ (t : List ℕ). before.3 ++ t) did.writes ∙ sym (append_assoc before.3 _ _)) in
    elim c.if-is_empty.branch [
      | then-is_empty+in_ok-write_all w ↦ rw (w.out-is, w.text-is) (
        before.0 ++ line ∷ [],
        knows,
        stands,
        before.3 ++ text,
        writes_both _ _ _ before.3 text before.4 (rw w.as_bytes.ensures.value at w.in_ok-write_all.ensures.bytes),
        rw (w.clear-then-is_empty.ensures.bytes, append-nil) told,
      )
      | else-is_empty w ↦ rw (w.out-is, w.text-is) (before.0 ++ line ∷ [], knows, stands, before.3, before.4, told)
    ]

pub returns : goal.returns
returns g c =
    let before = c.loop.invariant in
    let tally : c.tally-tally.result ≡ tally_of (after_all before.0 fresh) = c.tally-tally.ensures ∙ ap tally_of before.2 in
    let total = tally_text (tally_of (after_all before.0 fresh)) ++ 10 ∷ [] in
    let text = writes_both _ _ _ before.3 _ before.4 (rw c.as_bytes-2.ensures.value at c.in_ok-write_all-2.ensures.bytes) in
    let wrote = writes_both _ _ _ _ total (rw before.5 at text) (rw tally at c.in_ok-write_last_line.ensures) in
    (before.0, record { known_all = before.1; total = tally; wrote = wrote })
