-- The graph of every lexicon is what document 02 says, and what building writes is the graph of the list's words.
use Rattle.std.specs.Prelude.{◌≡◌, true, false, List, [], ◌∷◌, ℕ, ◌≤◌, drop}
use Rattle.std.proofs.Math.Path.{refl, ap}
use Rattle.std.proofs.Common.{sym, ◌∙◌, subst, arith}
use Rattle.std.proofs.Math.Option.{Option, none, some}
use borrow.Author.Tests.{ltb-false}
use Rattle.std.proofs.Math.ListN.{length, take}
use Rattle.std.proofs.Math.Seq.{take_at}
use Rattle.laws.specs.Cases.{some≢none}
use Rattle.laws.specs.Lists.{has_entries, split-empty}
use Rattle.answers.specs.Answers.{Answer, gives, refused, first_of}
use Rattle.answers.specs.RowLaws.{rows_pass, rows-passed, passed-all, row-never_gives}
use Rattle.node.specs.Nodes.{kbwg}
use Rattle.graph.specs.Runs.{Graph, node}
use Rattle.graph.specs.Words.{Word, count}
use Rattle.graph.specs.Counting.{count_row, IsCounted, unfit, loop, many, all}
use Rattle.pieces.proofs.LoadsItself.{loads-itself}
use Rattle.export.specs.Blocks.{met}
use Rattle.built.specs.Branches.{branches, onwards}
use Rattle.built.specs.Lexicon.{Lexicon}
use Rattle.built.specs.Listed.{words_listed, list_row}
use Rattle.built.proofs.ListedLaws.{listed-lexicon}
use Rattle.built.specs.Built.{node_of, run_nodes, word_runs, arc_to, built}
use Rattle.built.proofs.RunsLaws.{place-first, words-place-within, built-is, arc-to, list_in_runs}
use Rattle.built.proofs.FieldLaws.{built-two}
use Rattle.built.proofs.LooplessLaws.{built-loopless}
use Rattle.built.proofs.WordsLaws.{built-words}
use Rattle.built.proofs.SoundLaws.{built-ascends, built-sound, nodes-below, arcs-begin, arcs-apart}
use Rattle.built.proofs.ManyLaws.{counts_unless}
use Rattle.built.proofs.LxdLaws.{lxd-nodes, lxd-child}
use Rattle.built.specs.Build.{build_checks, built_row, build_row, building, build_as}
use Rattle.built.specs.Claim.{FromList}

pub built-none : built [] ≡ 0x40 ∷ 0x40 ∷ []
unfolding built word_runs met onwards branches run_nodes arc_to
built-none = refl

root_is : (ws : List Word) → has_entries ws ≡ true → node (built ws) 0 ≡ 0x240
root_is ws s = ap (λ l. node l 0) (built-is ws) ∙ ap (node_of 0 false true) (arc-to ws ws s ∙ place-first ws)

bare-is : (ws : List Word) → node (built ws) 1 ≡ 0x40
bare-is ws = ap (λ l. node l 1) (built-is ws)

module _ (ws : List Word) (lex : Lexicon 64 ws) (few : length (built ws) ≤ 16_777_216) where
  -- the words from node 2 are as many as the list's
  count-two : count kbwg (built ws) 2 ≡ length ws
  count-two = ap length (built-words ws lex few)

  says-many : (limit : ℕ) → limit ≤ length ws → (lent : List ℕ) (lent_work : ℕ) → first_of (count_row (built ws) (length lent) lent_work) ≡ none
      → {r : Answer} {after : List ℕ} → IsCounted limit (built ws) lent lent_work r after → r ≡ refused 13 []
  says-many limit h lent lent_work e (unfit x) = some≢none (sym x ∙ e)
  says-many limit h lent lent_work e (loop x l) = absurd (built-loopless ws lex few _ l.loops)
  says-many limit h lent lent_work e (many x l p m) = refl
  says-many limit h lent lent_work e (all x l f) =
      let two = built-two ws lex in
      absurd (split-empty ws
      (λ z. let n = ap length z in let k = f 0 (omega arith) in omega arith)
      (λ s.
      let w = (words-place-within ws lex ws (list_in_runs ws lex) s).1 in
      let p = place-first ws in
      let k = f 2 (omega arith) in
      let c = count-two in
      omega arith))

  pub from_list : FromList ws (built ws)
  from_list =
      record {
        root = root_is ws;
        bare = bare-is ws;
        ascending = built-ascends ws lex few;
        begins = arcs-begin ws lex few;
        in_order = lxd-nodes ws lex few;
        places = lxd-child ws lex few;
        apart = arcs-apart ws lex few;
        loads = λ lent room pieces cut.
            loads-itself (built ws) lent (nodes-below ws lex few) (built-two ws lex) few (built-sound ws lex few) room pieces cut;
        counts = counts_unless ws lex few;
        too_many = says-many;
        spells = built-words ws lex few;
        none-listed = λ z. ap built z ∙ built-none;
      }

-- ---- what building writes
module _ (bytes : List ℕ) (lent_work : ℕ) (lent : Graph) where
  abbrev list_words : List Word
  list_words = words_listed bytes

  -- a call that answers with a node count: the list was taken, its graph fits, and its nodes stand first in the lent list
  pub record WasBuilt (n : ℕ) : Type 0 where
    pub lexicon : Lexicon 64 (words_listed bytes)
    pub few : length (built (words_listed bytes)) ≤ 16_777_216
    pub size : length (built (words_listed bytes)) ≡ n
    pub nodes-are : take n (build_as bytes lent_work lent).nodes ≡ built (words_listed bytes)

  was_built-by : (n : ℕ) (o : Option Answer) → first_of (build_row bytes lent_work (length lent)) ≡ o → (building o (built list_words) lent).answer ≡ gives (n ∷ [])
      → build_as bytes lent_work lent ≡ building o (built list_words) lent → WasBuilt n
  unfolding build_row
  was_built-by n (some r) e i same = row-never_gives (build_row bytes lent_work (length lent)) (e ∙ ap some i)
  was_built-by n none e i same =
      let checked = rows-passed (build_checks bytes lent_work) (built_row (built list_words) (length lent)) e in
      let p = passed-all (built_row (built list_words) (length lent)) (sym (rows_pass (build_checks bytes lent_work) _ checked) ∙ e) in
      let k : length (built list_words) ≡ n = cc in
      record {
        lexicon = (listed-lexicon bytes (rows-passed (list_row bytes) _ checked)).0;
        few = ltb-false 16_777_216 (length (built list_words)) p.0;
        size = k;
        nodes-are = ap (λ b. take n b.nodes) same ∙ take_at (built list_words) (drop (length (built list_words)) lent) n k;
      }

  pub was_built : (n : ℕ) → (build_as bytes lent_work lent).answer ≡ gives (n ∷ []) → WasBuilt n
  unfolding build_as
  was_built n i = was_built-by n (first_of (build_row bytes lent_work (length lent))) refl i refl

  -- whatever building answers with a node count: its first nodes are what 02 says of the list's words
  pub built_claim : (n : ℕ) → (build_as bytes lent_work lent).answer ≡ gives (n ∷ []) → FromList (words_listed bytes) (take n (build_as bytes lent_work lent).nodes)
  built_claim n i =
      let b = was_built n i in
      subst (FromList list_words) (sym b.nodes-are) (from_list list_words b.lexicon b.few)
