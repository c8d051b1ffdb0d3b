-- The fields of the graph's nodes, where it has as many nodes as KBWG can number.
use Rattle.std.specs.Prelude.{◌≡◌, refl, Bool, true, ◌≢◌, ℕ, ◌≤◌, ◌<◌, length}
use Rattle.std.proofs.Common.{ap, ◌∙◌, arith}
use mathlib.Core.List.{List, [], Memᴰ}
use Rattle.laws.specs.Lists.{has_entries, split-empty}
use Rattle.node.specs.Nodes.{kbwg}
use Rattle.node.specs.PackedLaws.{Fields, packed-fields}
use Rattle.node.specs.PackingLaws.{whole-kbwg}
use Rattle.graph.specs.Words.{Word}
use Rattle.built.specs.BranchLaws.{branch-tile}
use Rattle.built.specs.Branches.{Branch, branches, onward, tile_alone}
use Rattle.built.specs.Built.{arc_to, built, node_of, word_runs}
use Rattle.built.specs.Lexicon.{Lexicon}
use Rattle.built.proofs.RunNodeLaws.{branch_node}
use Rattle.built.proofs.RunsLaws.{arc-to, arc-to_nothing, built-is, onward_in_runs, runs-lexicon, words-place-within}

pub kbwg-fields : (t : ℕ) (a e : Bool) (r : ℕ) → t < 64 → r < 16_777_216 → Fields kbwg (node_of t a e r) t a e r
kbwg-fields t a e r = packed-fields kbwg whole-kbwg (refl, refl) t a e r

module _ (ws : List Word) (lex : Lexicon 64 ws) where
  pub built-two : 2 ≤ length (built ws)
  built-two = let e = ap length (built-is ws) in omega arith

  -- an arc leads to a run's place, or is 0 where there are no words
  pub arc_in : (us : List Word) → (has_entries us ≡ true → Memᴰ us (word_runs ws)) → arc_to ws us < length (built ws)
  arc_in us m =
      let two = built-two in
      split-empty us
      (λ z. let e = ap (arc_to ws) z ∙ arc-to_nothing ws in omega arith)
      (λ s. let e = arc-to ws us s in let h = (words-place-within ws lex us (m s) s).1 in omega arith)

  pub arc-zero : (us : List Word) → (has_entries us ≡ true → Memᴰ us (word_runs ws)) → arc_to ws us ≡ 0 → us ≡ []
  arc-zero us m z =
      split-empty us (λ e. e)
      (λ s. let e = arc-to ws us s in let h = (words-place-within ws lex us (m s) s).0 in absurd (omega arith))

  pub arc-some : (us : List Word) → arc_to ws us ≢ 0 → has_entries us ≡ true
  arc-some us n = split-empty us (λ e. absurd (n (ap (arc_to ws) e ∙ arc-to_nothing ws))) (λ s. s)

  module _ (few : length (built ws) ≤ 16_777_216) where
    pub branch-fields : (us : List Word) → Memᴰ us (word_runs ws) → (b : Branch) → Memᴰ b (branches us) → (e : Bool)
        → Fields kbwg (branch_node (arc_to ws) b e) b.first (tile_alone b) e (arc_to ws (onward b))
    branch-fields us m b n e =
        let a = arc_in (onward b) (onward_in_runs ws lex us m b n) in
        kbwg-fields b.first (tile_alone b) e (arc_to ws (onward b)) (branch-tile 64 us (runs-lexicon ws lex us m) b n).1 (omega arith)
