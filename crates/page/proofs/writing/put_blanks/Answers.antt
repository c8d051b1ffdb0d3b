-- `writing::put_blanks` meets its contract: the part that is filled is the blanks.
use Rattle.std.proofs.Common.{◌≡◌, ◌∙◌, ap, arith, ◌+◌, ◌-◌, length, take, drop, length-take, length-drop}
use Rattle.std.proofs.lemmas.List.{length-replicate}
use Rattle.endian.proofs.PartStores.{part-stored}
use Rattle.page.specs.Rows.{blank, blanks}
use Rattle.page.proofs.writing.put_blanks.Goals as goal

pub returns : goal.returns
returns c =
    let a = c.args in
    let out = a.out.now in
    let long = length-replicate a.count blank in
    let part : length (take (a.at + a.count - a.at) (drop a.at out)) ≡ a.count =
    omega (arith, length-take (a.at + a.count - a.at) (drop a.at out), length-drop a.at out) in
    let filled = c.fill.ensures.after (λ y e. e) ∙ ap blanks part in
    record { place = omega (arith, long); stored = part-stored out a.at _ _ (blanks a.count) filled (omega (arith, long)) (omega (arith, long)) }
