-- Opening an input: what follows from each call's answer, and how the whole ends.
use mathlib.Core.Path.{◌≡◌, refl, sym, ap, ◌∙◌, subst}
use mathlib.Core.Bool.{true, false}
use mathlib.Core.List.{List, [], ◌∷◌}
use Prim.Native.Nat.{ℕ, ◌≤◌, ◌<◌}
use native.Mathlib.Omega.{arith}
use lib.Dec.{eqb}
use lib.ListN.{length, get_or, take, length-take}
use lib.Seq.{get_or-take, take_all}
use Rattle.laws.specs.Cases.{split}
use Rattle.answers.specs.Answers.{Answer, gives, nothing, refused, as_answer}
use Rattle.answers.specs.RowLaws.{gives≢refused}
use Rattle.node.specs.Nodes.{kbwg}
use Rattle.node.specs.declared.Layout.TheVariants.{Kwg}
use Rattle.graph.specs.Runs.{Graph, start_node}
use Rattle.graph.specs.Words.{count}
use Rattle.graph.specs.ChecksLaws.{Fit, fit}
use Rattle.graph.specs.Counting.{counts, IsCounted, Counts, count_limit}
use Rattle.load.proofs.FinishLaws.{finished-within}
use Rattle.load.specs.Loading.{Feeds, begin, feed, finish}
use Rattle.load.specs.Said.{said_begin, said_finish, begun_as, fed_as, finished_as}
use Rattle.std.specs.Prelude.{Result, Ok, Err}
use Rattle.load.specs.Said.{begin_why}
use Rattle.load.specs.declared.refusals.BeginRefusal.{BeginRefusal}
use Rattle.load.specs.declared.refusals.FinishRefusal.{FinishRefusal}
use Rattle.load.specs.declared.loader.Begun.{Begun}
use Rattle.load.specs.declared.loader.Fed.{Fed}
use Rattle.pieces.specs.Pieces.{LoadOutcome, feed_all, fed_pieces, load_pieces, one_feed}
use Rattle.laws.specs.Tables.{table-length, table_at}
use Rattle.numbers.proofs.WordNumbersLaws.{counted-lent}
use Rattle.listing.specs.Wordlist.{start_words, most_bytes, load_input, last_answer, load_answer, RefusesBy, CountWork, LongEnough, ReadInto, longer, unloaded, uncounted, counted, refuses, lists}
use Rattle.listing.specs.Said.{open_why, LoadSaid, LoadsAs, at_start, CountSaid, CountsAs, Opening, OpensRead}
use Rattle.listing.specs.declared.opening.Unprinted.{Unprinted}
use Rattle.listing.specs.declared.opening.Unprinted.TheVariants.{Refusal, Words}
use Rattle.listing.specs.declared.opening.OpenRefusal.{OpenRefusal}
use Rattle.listing.specs.declared.opening.OpenRefusal.TheVariants as O

-- an answer of this number refuses by it
pub refuses-by : (m : ℕ) {n : ℕ} {a : Answer} {vs : List ℕ} → a ≡ refused m vs → m ≡ n → RefusesBy a n
refuses-by m {n} e i = subst (λ x. RefusesBy x n) (sym e) i

-- ---- the load
-- what begin and finish answered, and the nodes then, are those of a load
pub record Answered (l : LoadOutcome) (begun : Result Unit BeginRefusal) (finished : Result ℕ FinishRefusal) (nodes : List ℕ) : Type 0 where
  pub begins : said_begin begun ≡ l.begun
  pub finishes : said_finish finished ≡ l.finished
  pub table : nodes ≡ l.nodes

-- begin, one feed and finish load the whole
pub whole-load : (input lent_nodes : List ℕ) (b : Begun) (f : Fed) (finished : Result ℕ FinishRefusal) {fed_nodes nodes : List ℕ}
    → begun_as b ≡ begin (length input) Kwg (length lent_nodes) → fed_as f fed_nodes ≡ feed b.loader lent_nodes input
    → finished_as finished nodes ≡ finish f.loader fed_nodes → Answered (load_input input lent_nodes) b.answer finished nodes
unfolding load_pieces fed_pieces feed_all one_feed
whole-load input lent_nodes b f finished {fed_nodes} {nodes} e d g =
    let s : b.loader ≡ (begin (length input) Kwg (length lent_nodes)).state = ap (λ x. x.state) e in
    let fed : fed_as f fed_nodes ≡ one_feed (length input) Kwg lent_nodes input = d ∙ ap (λ x. feed x lent_nodes input) s in
    let last : finished_as finished nodes ≡ finish (one_feed (length input) Kwg lent_nodes input).state (one_feed (length input) Kwg lent_nodes input).nodes =
    g ∙ ap (λ (x : Feeds). finish x.state x.nodes) fed in
    record { begins = ap (λ x. x.answer) e; finishes = ap (λ x. x.answer) last; table = ap (λ x. x.nodes) last }

module _ {l : LoadOutcome} {begun : Result Unit BeginRefusal} {finished : Result ℕ FinishRefusal} {nodes : List ℕ} (h : Answered l begun finished nodes) where
  pub load_refused_by-begin : (why : BeginRefusal) → begun ≡ Err why → LoadsAs l (Err (O.Begin why)) nodes
  load_refused_by-begin why e =
      let b : l.begun ≡ as_answer (begin_why why) = sym h.begins ∙ ap said_begin e in
      record { said = subst (λ a. RefusesBy (last_answer a l.finished) (begin_why why).number) (sym b) refl; table = h.table }

  pub load-past-begin : (x : Result ℕ OpenRefusal) → said_begin begun ≡ gives [] → LoadSaid x (said_finish finished) → LoadsAs l x nodes
  load-past-begin x e f =
      let b : l.begun ≡ gives [] = sym h.begins ∙ e in
      let a : load_answer l ≡ said_finish finished = ap (λ y. last_answer y l.finished) b ∙ sym h.finishes in
      record { said = subst (LoadSaid x) (sym a) f; table = h.table }

-- ---- where finish answers a number of nodes, so many are there
last_gives : (a b : Answer) {n : ℕ} → last_answer a b ≡ gives (n ∷ []) → b ≡ gives (n ∷ [])
last_gives (gives vs) b e = e
last_gives nothing b e = e
last_gives (refused k vs) b e = gives≢refused (sym e)

pub loaded-within : (input lent_nodes : List ℕ) {n : ℕ} → load_answer (load_input input lent_nodes) ≡ gives (n ∷ [])
    → n ≤ length (load_input input lent_nodes).nodes
unfolding load_pieces fed_pieces feed_all one_feed
loaded-within input lent_nodes e =
    let l = load_input input lent_nodes in
    let fed = one_feed (length input) Kwg lent_nodes input in
    finished-within fed.state fed.nodes (last_gives l.begun l.finished e)

pub nodes-within : (input lent_nodes : List ℕ) {nodes : List ℕ} {n : ℕ} → LoadsAs (load_input input lent_nodes) (Ok n) nodes → n ≤ length nodes
nodes-within input lent_nodes {nodes} {n} a = subst (λ l. n ≤ length l) (sym a.table) (loaded-within input lent_nodes a.said)

-- what holds of the answer of a load holds where a match finds it
pub loads_as : {l : LoadOutcome} {x y : Result ℕ OpenRefusal} {nodes : List ℕ} → x ≡ y → LoadsAs l x nodes → LoadsAs l y nodes
loads_as {l} {nodes = nodes} e a = subst (λ r. LoadsAs l r nodes) e a

-- ---- the count
module _ (g : Graph) (lent_counts lent_work after : List ℕ) (c : IsCounted count_limit g lent_counts (length lent_work) (gives []) after) where
  ok : Counts count_limit g × (take (length g) after ≡ counts g)
  ok = counted-lent count_limit g lent_counts after (length lent_work) c

  fits : Fit g
  fits = fit g ok.0.fit

  -- the count of a node, as it stands in the list
  count-stands : (p : ℕ) → p < length g → (p < length after) × (get_or after p 0 ≡ count kbwg g p)
  count-stands p h =
      let n = sym (length-take (length g) after) ∙ ap length ok.1 ∙ table-length (length g) (count kbwg g) in
      (omega arith, sym (get_or-take (length g) after p 0 h) ∙ ap (λ l. get_or l p 0) ok.1 ∙ table_at (length g) (count kbwg g) p h)

  pub start-stands : (0 < length g) × (start_node g 0 < length after)
  start-stands =
      let z : 0 < length g = omega (arith, fits.two) in
      (z, (count-stands (start_node g 0) (fits.steps.arcs 0 z)).0)

  -- the number of words from the start, as it is read off the counts
  start-count : elim (eqb (start_node g 0) 0) [ true ↦ 0 | false ↦ get_or after (start_node g 0) 0 ] ≡ length (start_words g)
  unfolding start_words
  start-count =
      split (eqb (start_node g 0) 0)
      (λ t. rw (t, start_words))
      (λ t. rw (t, start_words) (count-stands (start_node g 0) (fits.steps.arcs 0 start-stands.0)).1)

  pub counts-done : {r : Unprinted} {work : List ℕ} → r ≡ at_start g after → CountWork g lent_counts lent_work work
      → CountsAs g lent_counts lent_work r after work
  counts-done e w =
      record {
        answer = gives [];
        said = subst (λ x. CountSaid x (gives []) g) (sym e) (refl, refl, start-count, refl);
        counted = c;
        free = w;
      }

-- ---- what was read
-- more bytes than may be listed were read of a longer input
pub read-longer : (buffer input : List ℕ) (read : ℕ) → most_bytes < length buffer → most_bytes < read → ReadInto buffer read input
    → most_bytes < length input
read-longer buffer input read b r h = omega (arith, ap length h, length-take (length buffer) input, length-take read buffer)

-- fewer bytes than there is room for are the whole input
pub read_whole : (buffer input : List ℕ) (read : ℕ) → read < length buffer → ReadInto buffer read input → input ≡ take read buffer
read_whole buffer input read r h =
    let n : length input ≤ length buffer = omega (arith, ap length h, length-take (length buffer) input, length-take read buffer) in
    sym (take_all (length buffer) input n) ∙ h

-- ---- the whole
module _ {input lent_nodes lent_counts lent_work : List ℕ} (n : LongEnough lent_nodes lent_counts lent_work) where
  pub open-longer : most_bytes < length input → Opening input lent_nodes lent_counts lent_work (Refusal 2) lent_nodes lent_counts lent_work
  open-longer h = record { enough = n; ends = refuses 2; said = refl; opens = longer h }

  module _ (h : length input ≤ most_bytes) {nodes : List ℕ} where
    pub open-unloaded : (why : OpenRefusal) → LoadsAs (load_input input lent_nodes) (Err why) nodes
        → Opening input lent_nodes lent_counts lent_work (Refusal (open_why why).number) nodes lent_counts lent_work
    open-unloaded why a = record { enough = n; ends = refuses (open_why why).number; said = refl; opens = rw a.table (unloaded h a.said) }

    pub open-loaded : (size : ℕ) (r : Unprinted) {counts work : List ℕ} → LoadsAs (load_input input lent_nodes) (Ok size) nodes
        → CountsAs (take size nodes) lent_counts lent_work r counts work → Opening input lent_nodes lent_counts lent_work r nodes counts work
    open-loaded size (Refusal m) a c =
        let k = rw a.table at c.counted in
        let w = rw a.table at c.free in
        record { enough = n; ends = refuses m; said = refl; opens = rw a.table (uncounted h a.said k c.said w) }
    open-loaded size (Words s m i) a c =
        let t = c.said.0 in
        let k = rw (a.table, t) at c.counted in
        let w = rw a.table at c.free in
        let all : (s ≡ start_node (take size nodes) 0) × (m ≡ length (start_words (take size nodes))) × (i ≡ 0) = (c.said.1, c.said.2, c.said.3) in
        record {
          enough = n;
          ends = lists (take size (load_input input lent_nodes).nodes);
          said = rw a.table at all;
          opens = rw a.table (counted h a.said k w);
        }

-- what holds of the bytes read holds of the input, where they are fewer than there is room for
pub opens-read : {lent_nodes lent_counts lent_work nodes counts work : List ℕ} {r : Unprinted} (buffer : List ℕ) (read : ℕ) → read < length buffer
    → Opening (take read buffer) lent_nodes lent_counts lent_work r nodes counts work
    → OpensRead buffer read lent_nodes lent_counts lent_work r nodes counts work
opens-read {lent_nodes} {lent_counts} {lent_work} {nodes} {counts} {work} {r} buffer read h o input i =
    subst (λ l. Opening l lent_nodes lent_counts lent_work r nodes counts work) (sym (read_whole buffer input read h i)) o
