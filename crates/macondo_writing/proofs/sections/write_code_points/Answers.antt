-- `write_code_points` meets its contract: after the count, each letter's code point.
use Rattle.std.specs.Prelude.{map, ℕ, ◌+◌, get_or}
use Rattle.std.proofs.Common.{sym, ap, ◌∙◌, rules}
use Rattle.std.proofs.Math.ListN.{length-map}
use Rattle.std.proofs.lemmas.List.Edits.{sets}
use Rattle.endian.specs.Bytes.{big_endians}
use Rattle.macondo_writing.proofs.SectionLaws.{section-stored, made-map}
use Rattle.macondo_writing.proofs.sections.write_code_points.Goals as goal

pub returns : goal.returns
returns c =
    let code = λ (t : ℕ). get_or c.args.labels.now t 0 in
    let e = c.write_each.ensures in
    let made = made-map code (λ x r k. search rules) e.1 in
    section-stored 4 (map code c.args.letters.now) c.args.file.now c.args.at _ (sym (length-map c.args.letters.now code)) c.write_be_u32.ensures
    (e.2 ∙ ap (λ vs. sets c.write_be_u32.new.bytes (c.args.at + 4) (big_endians 4 vs)) made)
