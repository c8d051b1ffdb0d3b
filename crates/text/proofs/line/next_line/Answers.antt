-- `line::next_line` meets its contract: what stands at the place is the line and its ending, and then the rest.
use Rattle.std.proofs.Common.{◌≡◌, ◌∙◌, ◌-◌, ◌+◌, ap, not, length, take, drop, take_while}
use Rattle.std.proofs.lemmas.List.{drop_min, take_rest}
use Rattle.text.specs.Lines.{is_ending, ending_width}
use Rattle.text.specs.LineLaws.{line-before, line-after}
use Rattle.text.proofs.line.next_line.Goals as goal

pub returns : goal.returns
returns c =
    let text = c.args.text.now in
    let rest : take (length text - c.min.result) (drop c.min.result text) ≡ drop c.args.at.now text = take_rest text c.min.result ∙ ap (λ i. drop i text) c.min.ensures ∙ drop_min c.args.at.now text in
    let end = c.line_length-end.result in
    let e : end ≡ length (take_while (λ b. not (is_ending b)) (drop c.args.at.now text)) = rw rest at c.line_length-end.ensures.line in
    let w : c.ending_width.result ≡ ending_width (drop end (drop c.args.at.now text)) = rw take_rest at (rw rest at c.ending_width.ensures.width) in
    record {
      part = rw rest (line-before (drop c.args.at.now text) end c.ending_width.result e);
      cursor = ap (λ n. c.args.at.now + n) (line-after (drop c.args.at.now text) end c.ending_width.result e w);
    }
