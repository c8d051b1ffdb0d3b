-- `build_words` meets its contract: the tails stand for the list's words, of which there are too many only where the graph has too many nodes.
use native.Mathlib.Omega.{arith}
use mathlib.Core.Path.{◌≡◌, sym, ap, ◌∙◌}
use mathlib.Core.List.{List}
use Prim.Native.Nat.{ℕ, ◌<◌}
use lib.ListN.{length}
use Rattle.graph.specs.Words.{Word}
use Rattle.built.specs.Built.{built}
use Rattle.built.specs.Lexicon.{Lexicon}
use Rattle.built.specs.Listed.{list_bytes}
use Rattle.shelf.specs.FewNodes.{entries-few}
use Rattle.shelf.specs.PassLaws.{shelf-built}
use Rattle.shelf.specs.Shelf.{numbered_graph}
use Rattle.shelf.specs.Shelving.{shelved}
use Rattle.tails.specs.Tails.{WordsClosedAs, WordsClose}
use Rattle.std.proofs.Common.{rules, tests, Option, Some, None, Err}
use Rattle.std.proofs.lemmas.Result.{err_from_is_err_and}
use Rattle.build.specs.declared.BuildRefusal.TheVariants as why
use Rattle.build.specs.Said.{IsRoot, past_checks}
use Rattle.build.proofs.BuildLaws.{none_refused, too_many, no_bytes}
use Rattle.build.proofs.GraphLaws.{is-root}
use Rattle.build.proofs.build_words.Goals as goal
use Rattle.build.proofs.build_words.Goals.{After-close_words}

pub returns-then-is_empty : goal.returns-then-is_empty
returns-then-is_empty c = λ ws lex e.
    let zero : length c.args.list.now ≡ 0 = search (rules, tests) in
    let none = no_bytes c.args.list.now ws e zero in
    c.build_empty.ensures ∙ ap (λ (us : List Word). past_checks (built us) c.args.nodes.now) (sym none)

-- where the words are closed
module _ (c : After-close_words) where
  pub some : 0 < length c.args.list.now
  some = search (rules, tests)

  pub closes : (a : Option ℕ) → c.close_words.result ≡ a → (ws : List Word) → Lexicon 64 ws → c.args.list.now ≡ list_bytes ws
      → WordsClosedAs ws c.min-n.result c.close_words.new.work a
  unfolding WordsClose
  closes a e ws lex b = rw (← e) (c.close_words.ensures ws lex b)

pub returns-in_err-root : goal.returns-in_err-root
returns-in_err-root c = λ ws lex b.
    let k = (goal.at.returns-in_err-root c).After-close_words in
    let e = c.in_err-root.ensures in
    let is : c.from_residual.result ≡ Err why.TooManyNodes =
    none_refused (rw e.ok_part at e.value) (err_from_is_err_and c.from_residual.result c.from_residual.ensures.1) in
    rw is (too_many (built ws) c.args.nodes.now (omega (arith, closes k None e.ok_part ws lex b, entries-few ws lex)))

-- where the tail of the list's own run is known
module _ (c : After-close_words) (root : ℕ) (is : c.close_words.result ≡ Some root) (ws : List Word) (lex : Lexicon 64 ws) (b : c.args.list.now ≡ list_bytes ws) where
  pub from_root : IsRoot (shelved ws).shelf c.min-n.result c.close_words.new.work root
  from_root = let h = closes c (Some root) is ws lex b in is-root ws lex (ap length (sym b)) (some c) h.0 h.1

pub build_run-requires : goal.build_run-requires
build_run-requires c =
    let k = (goal.at.build_run-requires c).After-close_words in
    let r = c.in_ok-root in
    let own = c.requires.lexicon in
    ((shelved own.0).shelf, from_root k r.root r.ensures.ok_part own.0 own.1 own.2)

pub returns : goal.returns
returns c = λ ws lex b.
    let k = (goal.at.returns c).After-close_words in
    let r = c.in_ok-root in
    let lent = c.args.nodes.now in
    c.build_run.ensures (shelved ws).shelf (from_root k r.root r.ensures.ok_part ws lex b)
    ∙ ap (λ (x : ℕ). past_checks (numbered_graph (shelved ws).shelf x) lent) (closes k (Some r.root) r.ensures.ok_part ws lex b).1
    ∙ ap (λ (g : List ℕ). past_checks g lent) (sym (shelf-built ws lex))
