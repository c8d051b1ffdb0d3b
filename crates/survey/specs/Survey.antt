-- What the LXD writer's survey of a graph finds: what decides the checks 22, 23 and 13 of document 01, by the definitions that the row
-- uses, and the tables in which it is kept.
use Rattle.std.specs.Prelude.{◌≡◌, Bool, true, false, ◌&&◌, ◌||◌, List, ℕ, zero, suc, ◌+◌, ◌*◌, ◌≤◌, ◌<◌, min, max, eqb, ltb, length, get_or, set, Result, Ok, Err}
use Rattle.laws.specs.Lists.{some_of}
use Rattle.base.specs.Numbers.{most, flag}
use Rattle.node.specs.Nodes.{kbwg, tile, arc, is_end}
use Rattle.graph.specs.Runs.{Graph, node}
use Rattle.graph.specs.Words.{words_within}
use Rattle.export.specs.Starts.{run_of, has_arc, deeper}
use Rattle.windows1252.specs.Windows1252.{no_byte}
use Rattle.survey.specs.RunCounted.{RunCounted, words_through}
use Rattle.survey.specs.declared.Findings.{Findings}
use Rattle.survey.specs.declared.ChainTooDeep.{ChainTooDeep}

-- the label of a node has no byte
abbrev pub byteless : List ℕ → ℕ → Bool
byteless labels v = no_byte (get_or labels (tile kbwg v) 0)

-- 23, "a code point without a byte in this table" (document 02, C-15): a label at a node of p's run, or of one within k runs in a chain from p
unfoldable pub byteless_within : Graph → List ℕ → ℕ → ℕ → Bool
byteless_within g labels zero p = false
byteless_within g labels (suc k) p = some_of (λ v. byteless labels v || (has_arc v && byteless_within g labels k (arc kbwg v))) (run_of g p)

-- ---- what the survey answers
-- of p, where no chain from it has more than k runs
pub record Surveys (g : Graph) (labels : List ℕ) (k p : ℕ) (s : Findings) : Type 0 where
  pub deep : deeper g k p ≡ false
  pub runs : (j : ℕ) → deeper g j p ≡ ltb j s.runs
  pub words : s.words ≡ min (length (words_within kbwg k g p)) most
  pub byteless : s.byteless ≡ byteless_within g labels k p

-- what the survey answers of p: its findings, or that a chain from p has more than k runs
abbrev pub SurveyIs : Graph → List ℕ → ℕ → ℕ → Result Findings ChainTooDeep → Type 0
SurveyIs g labels k p (Ok s) = Surveys g labels k p s
SurveyIs g labels k p (Err e) = deeper g k p ≡ true

-- ---- what is known of a run
-- of no run
abbrev pub no_run : Findings
no_run = record { runs = 0; words = 0; byteless = false }

-- s is right for the run from q where `there`, else it is that of no run
pub record FindingsOf (g : Graph) (labels : List ℕ) (there : Bool) (q : ℕ) (s : Findings) : Type 0 where
  pub counted : RunCounted g there q s.runs s.words
  pub byteless : (k : ℕ) → s.runs ≤ k → s.byteless ≡ there && byteless_within g labels k q

-- a run by its first node, the run that this node's arc leads to, and the rest
abbrev pub node_joined : List ℕ → ℕ → Findings → Findings → Findings
node_joined labels v child rest =
    record {
      runs = max (child.runs + 1) rest.runs;
      words = min (words_through v child.words + rest.words) most;
      byteless = byteless labels v || (child.byteless || rest.byteless);
    }

-- a run, with so many runs left in the chain
abbrev pub if_shallow : Findings → ℕ → Result Findings ChainTooDeep
if_shallow s left = elim (ltb left s.runs) [ true ↦ Err (record {}) | false ↦ Ok s ]

-- what is answered of q, if there is a run, with so many runs left in the chain
abbrev pub SurveyAnswers : Graph → List ℕ → Bool → ℕ → ℕ → Result Findings ChainTooDeep → Type 0
SurveyAnswers g labels there q left (Ok s) = FindingsOf g labels there q s × (s.runs ≤ left)
SurveyAnswers g labels there q left (Err e) = there && deeper g left q ≡ true

-- ---- the tables
-- the entry of q in three tables of n numbers
abbrev pub findings_at : ℕ → List ℕ → ℕ → Findings
findings_at n w q = record { runs = get_or w q 0; words = get_or w (n + q) 0; byteless = eqb (get_or w (2 * n + q) 0) 1 }

-- the tables with that entry
abbrev pub findings_kept : ℕ → List ℕ → ℕ → Findings → List ℕ
findings_kept n w q s = set (set (set w q s.runs) (n + q) s.words) (2 * n + q) (flag s.byteless)

-- what they say of the nodes after node i in its run
abbrev pub findings_after : Graph → List ℕ → ℕ → Findings
findings_after g w i = elim (is_end kbwg (node g i)) [ true ↦ no_run | false ↦ findings_at (length g) w (i + 1) ]

-- an entry with runs is right
pub record SurveyTables (g : Graph) (labels w : List ℕ) : Type 0 where
  pub room : 3 * length g ≤ length w
  pub right : (q : ℕ) → q < length g → (get_or w q 0 ≡ 0 → ⊥) → FindingsOf g labels true q (findings_at (length g) w q)

-- the run from p goes on to i, and what comes after i is known
pub record LastIs (g : Graph) (w : List ℕ) (p i : ℕ) : Type 0 where
  pub from : p ≤ i
  pub inside : i < length g
  pub on : (j : ℕ) → p ≤ j → j < i → is_end kbwg (node g j) ≡ false
  pub known : is_end kbwg (node g i) ≡ false → get_or w (i + 1) 0 ≡ 0 → ⊥
