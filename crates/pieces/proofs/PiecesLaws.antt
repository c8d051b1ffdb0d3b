-- Every list of calls loads as one piece: by one feed at a time, the state and the nodes are those of the joined bytes.
use Rattle.std.specs.Prelude.{◌≡◌, ltb, take, drop}
use Rattle.std.proofs.Math.Path.{refl, sym, ap₂}
use Rattle.std.proofs.Common.{ap, ◌∙◌, zero-add, le_refl, arith, ltb-true, ltb-false, le-ltb, take-append-drop}
use mathlib.Core.List.{List, [], ◌∷◌, ◌++◌, map, append_assoc, append-nil}
use Rattle.std.proofs.Math.Option.{none, some}
use Prim.Native.Nat.{ℕ, zero-le, ◌+◌, ◌*◌, ◌≤◌, ◌<◌}
use Rattle.std.proofs.Math.Nat.{le_trans}
use Rattle.std.proofs.Math.ListN.{length, length-append}
use Rattle.std.proofs.Math.Seq.{length-sets}
use Rattle.laws.specs.Lists.{join_all}
use Rattle.laws.specs.Cases.{split, split_option, some≢none}
use Rattle.answers.specs.Answers.{Answer, refused, first_of}
use Rattle.node.specs.Nodes.{kbwg}
use Rattle.node.specs.Said.{bit_layout}
use Rattle.node.specs.declared.Layout.{Layout}
use Rattle.graph.specs.Runs.{Graph}
use Rattle.endian.specs.Bytes.{whole_nodes, part_node}
use Rattle.endian.proofs.BytesLaws.{length_whole, length_part}
use Rattle.load.specs.Repacking.{first_misfit, fitting, misfit_answer}
use Rattle.load.specs.declared.repack.Misfit.{Misfit}
use Rattle.load.specs.RepackingLaws.{misfit-within}
use Rattle.load.specs.Loading.{begin_row, sound_row, begin, fresh_loader, Feeds, feed, zeros, holding, stopped, misfit_in, state_after, nodes_after}
use Rattle.load.proofs.StateLaws.{sound-state, bad-length, state-holding, state-stopped, state-keeps}
use Rattle.load.proofs.BeginLaws.{begin-empty}
use Rattle.load.proofs.FeedLaws.{feed-unsound, feed-kept, feed-long, feed-reads}
use Rattle.pieces.specs.JoinLaws.{part-places, part-zeros, misfit-joined, state-joined, nodes-joined, misfit-kept, state-stays, nodes_stay}
use Rattle.pieces.specs.Pieces.{feed_all, joined_onto, joined_from, piece_answer, feed_answers, joined_bytes, feeds_answer, cut_at}
use Rattle.pieces.specs.Pieces.{fed_pieces, one_feed, EndsAsOneFeed, LoadsAsWhole, up_to_each, LoadsHoweverCut}
use Rattle.load.specs.declared.loader.Loader.{Loader}

module _ (announced : ℕ) (layout : Layout) (nodes : Graph) (ok : first_of (begin_row announced (length nodes)) ≡ none) where
  -- the state and the nodes after the bytes b
  abbrev St : List ℕ → Loader
  St b = state_after announced layout 0 b

  abbrev Nd : List ℕ → Graph
  Nd b = nodes_after layout 0 b nodes

  abbrev fed : List ℕ → Answer → Feeds
  fed b a = record { answer = a; state = St b; nodes = Nd b }

  nodes-length : (b : List ℕ) → length (Nd b) ≡ length nodes
  unfolding nodes_after
  nodes-length b = length-sets nodes 0 (fitting (bit_layout layout) kbwg (whole_nodes b))

  still-ok : (b : List ℕ) → first_of (begin_row announced (length (Nd b))) ≡ none
  still-ok b = ap (λ n. first_of (begin_row announced n)) (nodes-length b) ∙ ok

  sound-holding : (b : List ℕ) → length b ≤ announced → first_of (sound_row (holding announced layout (4 * 0 + length b) (part_node b)) (length (Nd b))) ≡ none
  unfolding holding
  sound-holding b h =
      let l = length_part b in
      sound-state (holding announced layout (4 * 0 + length b) (part_node b)) _ (still-ok b) (omega arith) (omega arith) (part-zeros b)

  sound-stopped : (b : List ℕ) → length b ≤ announced → {m : Misfit} → misfit_in layout 0 b ≡ some m
      → first_of (sound_row (stopped announced layout m) (length (Nd b))) ≡ none
  unfolding stopped zeros
  sound-stopped b h {m} e =
      let l = length_whole b in
      let w = misfit-within (bit_layout layout) kbwg (whole_nodes b) 0 e in
      sound-state (stopped announced layout m) _ (still-ok b) (omega arith) (omega arith) refl

  -- ---- one feed after the bytes b
  module _ (b p : List ℕ) (h : length b ≤ announced) where
    step_kept : {m : Misfit} → misfit_in layout 0 b ≡ some m → feed (St b) (Nd b) p ≡ fed b (misfit_answer (some m))
    step_kept {m} e =
        let s = state-stopped announced layout 0 b e in
        feed-kept (St b) (Nd b) p (ap (λ (x : Loader). first_of (sound_row x (length (Nd b)))) s ∙ sound-stopped b h e) (state-keeps announced layout 0 b ∙ e)

    module _ (e : misfit_in layout 0 b ≡ none) where
      ready : first_of (sound_row (St b) (length (Nd b))) ≡ none
      ready = ap (λ (x : Loader). first_of (sound_row x (length (Nd b)))) (state-holding announced layout 0 b e) ∙ sound-holding b h

      step_left : announced < length b + length p → feed (St b) (Nd b) p ≡ fed b (refused 5 [])
      unfolding holding
      step_left l =
          feed-long (St b) (Nd b) p ready (state-keeps announced layout 0 b ∙ e)
          (rw (state-holding announced layout 0 b e) (omega arith))

      step-joined : length b + length p ≤ announced → feed (St b) (Nd b) p ≡ fed (b ++ p) (misfit_answer (misfit_in layout 0 (b ++ p)))
      unfolding holding
      step-joined l =
          feed-reads (St b) (Nd b) p ready (state-keeps announced layout 0 b ∙ e) (rw (state-holding announced layout 0 b e) (omega arith))
          ∙ rw (state-holding announced layout 0 b e, part-places b, zero-add)
          (λ i. record {
            answer = misfit_answer (misfit-joined announced layout nodes b p e i);
            state = state-joined announced layout nodes b p e i;
            nodes = nodes-joined announced layout nodes b p e i;
          })

    -- a feed adds its piece, and answers what 01 says of the joined bytes
    step : feed (St b) (Nd b) p ≡ fed (joined_onto announced b p) (piece_answer (misfit_in layout 0 b) announced layout b p)
    unfolding joined_onto
    step =
        split_option (misfit_in layout 0 b)
        (λ e. split (ltb announced (length b + length p))
        (λ t. rw e (rw (t, joined_onto, piece_answer) (step_left e (ltb-true _ _ t))))
        (λ t. rw e (rw (t, joined_onto, piece_answer) (step-joined e (ltb-false _ _ t)))))
        (λ m e. split (ltb announced (length b + length p))
        (λ t. rw e (rw (t, joined_onto) (step_kept e)))
        (λ t. rw e (rw (t, joined_onto) (rw (state-stays announced layout nodes b p e, nodes_stay announced layout nodes b p e) (step_kept e)))))

  joined-short : (b p : List ℕ) → length b ≤ announced → length (joined_onto announced b p) ≤ announced
  unfolding joined_onto
  joined-short b p h =
      split (ltb announced (length b + length p))
      (λ t. rw (t, joined_onto) h)
      (λ t. rw (t, joined_onto) (rw length-append (ltb-false _ _ t)))

  all_short : (b : List ℕ) (ps : List (List ℕ)) → length b ≤ announced → length (joined_from announced b ps) ≤ announced
  unfolding joined_from
  all_short b [] h = h
  all_short b (p ∷ ps) h = all_short (joined_onto announced b p) ps (joined-short b p h)

  all-fed : (b : List ℕ) (ps : List (List ℕ)) → length b ≤ announced
      → feed_all (St b) (Nd b) ps
      ≡ record { answers = feed_answers announced layout b ps; state = St (joined_from announced b ps); nodes = Nd (joined_from announced b ps) }
  unfolding feed_all joined_from feed_answers
  all-fed b [] h = refl
  all-fed b (p ∷ ps) h = rw (step b p h) (rw (all-fed (joined_onto announced b p) ps (joined-short b p h)))

-- ---- after a refused begin
module _ (layout : Layout) where
  no_length : (nodes : Graph) → first_of (sound_row (fresh_loader 0 layout) (length nodes)) ≡ some (refused 4 [])
  unfolding holding
  no_length nodes = bad-length (fresh_loader 0 layout) (length nodes) (rw (begin-empty 0 (length nodes) refl))

  refused_all : (nodes : Graph) (ps : List (List ℕ))
      → feed_all (fresh_loader 0 layout) nodes ps ≡ record { answers = map (λ p. refused 4 []) ps; state = fresh_loader 0 layout; nodes = nodes }
  unfolding feed_all
  refused_all nodes [] = refl
  refused_all nodes (p ∷ ps) = rw (feed-unsound (fresh_loader 0 layout) nodes p (no_length nodes)) (rw (refused_all nodes ps))

-- ---- begin, and one feed
module _ (announced : ℕ) (layout : Layout) (nodes : Graph) where
  started : fresh_loader announced layout ≡ state_after announced layout 0 []
  unfolding state_after part_node whole_nodes first_misfit
  started = refl

  refused_one : {r : Answer} → first_of (begin_row announced (length nodes)) ≡ some r → (bytes : List ℕ)
      → one_feed announced layout nodes bytes ≡ record { answer = refused 4 []; state = fresh_loader 0 layout; nodes = nodes }
  unfolding one_feed begin
  refused_one e bytes = rw (e, one_feed) (feed-unsound (fresh_loader 0 layout) nodes bytes (no_length layout nodes))

  one-fed : first_of (begin_row announced (length nodes)) ≡ none → (bytes : List ℕ) → length bytes ≤ announced
      → one_feed announced layout nodes bytes
      ≡ record { answer = misfit_answer (misfit_in layout 0 bytes); state = state_after announced layout 0 bytes; nodes = nodes_after layout 0 bytes nodes }
  unfolding one_feed begin nodes_after whole_nodes fitting first_misfit
  one-fed ok bytes h = rw (ok, one_feed) (rw started (step-joined announced layout nodes ok [] bytes zero-le refl (omega arith)))

-- ---- the claim
module _ (announced : ℕ) (layout : Layout) (nodes : Graph) (pieces : List (List ℕ)) where
  -- from the values of the calls in pieces and of the one feed
  ends : (s : Loader) (after : Graph) (a : Answer) (bytes : List ℕ) (said : List Answer)
      → fed_pieces announced layout nodes pieces ≡ record { answers = said; state = s; nodes = after }
      → one_feed announced layout nodes bytes ≡ record { answer = a; state = s; nodes = after }
      → EndsAsOneFeed announced layout nodes pieces bytes
  ends s after a bytes said p w = record { state = rw (p, w); table = rw (p, w); finished = rw (p, w) }

  pieces_refused : {r : Answer} → first_of (begin_row announced (length nodes)) ≡ some r
      → fed_pieces announced layout nodes pieces ≡ record { answers = map (λ p. refused 4 []) pieces; state = fresh_loader 0 layout; nodes = nodes }
  unfolding fed_pieces begin
  pieces_refused e = rw (e, fed_pieces) (refused_all layout nodes pieces)

  refused_begin : {r : Answer} → first_of (begin_row announced (length nodes)) ≡ some r → LoadsAsWhole announced layout nodes pieces
  unfolding joined_bytes feeds_answer nodes_after whole_nodes fitting
  refused_begin e =
      let p = pieces_refused e in
      let none-joined : joined_bytes announced layout nodes pieces ≡ [] = rw (e, joined_bytes) in
      record {
        ends = rw none-joined (ends _ _ _ [] _ p (refused_one announced layout nodes e []));
        answered = rw p (rw (e, feeds_answer));
        taken = λ o. some≢none (sym e ∙ o);
        placed = rw (p, none-joined);
      }

  pieces-fed : first_of (begin_row announced (length nodes)) ≡ none
      → let bytes = joined_from announced [] pieces in
      fed_pieces announced layout nodes pieces
      ≡ record { answers = feed_answers announced layout [] pieces; state = state_after announced layout 0 bytes; nodes = nodes_after layout 0 bytes nodes }
  unfolding fed_pieces begin nodes_after whole_nodes fitting
  pieces-fed e = rw (e, fed_pieces) (rw (started announced layout nodes) (all-fed announced layout nodes e [] pieces zero-le))

  accepted-begin : first_of (begin_row announced (length nodes)) ≡ none → LoadsAsWhole announced layout nodes pieces
  unfolding joined_bytes feeds_answer
  accepted-begin e =
      let p = pieces-fed e in
      let bytes = joined_from announced [] pieces in
      let all-joined : joined_bytes announced layout nodes pieces ≡ bytes = rw (e, joined_bytes) in
      let short = all_short announced layout nodes e [] pieces zero-le in
      record {
        ends = rw all-joined (ends _ _ _ bytes _ p (one-fed announced layout nodes e bytes short));
        answered = rw p (rw (e, feeds_answer));
        taken = λ o. rw (p, all-joined);
        placed = rw (p, all-joined);
      }

pub loads_as_whole : (announced : ℕ) (layout : Layout) (nodes : Graph) (pieces : List (List ℕ)) → LoadsAsWhole announced layout nodes pieces
loads_as_whole announced layout nodes pieces =
    split_option (first_of (begin_row announced (length nodes)))
    (accepted-begin announced layout nodes pieces)
    (λ r e. refused_begin announced layout nodes pieces e)

-- ---- a file of the announced length, cut anyhow
length_of_first : (x y : List ℕ) → length x ≤ length (x ++ y)
length_of_first x y = rw length-append (omega arith)

module _ (announced : ℕ) (layout : Layout) (nodes : Graph) where
  refused_each : {r : Answer} → first_of (begin_row announced (length nodes)) ≡ some r → (b : List ℕ) (ps : List (List ℕ))
      → map (λ bytes. (one_feed announced layout nodes bytes).answer) (up_to_each b ps) ≡ map (λ p. refused 4 []) ps
  unfolding up_to_each
  refused_each e b [] = refl
  refused_each e b (p ∷ ps) = ap₂ ◌∷◌ (ap (λ (f : Feeds). f.answer) (refused_one announced layout nodes e (b ++ p))) (refused_each e (b ++ p) ps)

  module _ (ok : first_of (begin_row announced (length nodes)) ≡ none) where
    pub joined_is : (b : List ℕ) (ps : List (List ℕ)) → length (b ++ join_all ps) ≤ announced → joined_from announced b ps ≡ b ++ join_all ps
    unfolding joined_from joined_onto
    joined_is b [] h = sym (append-nil b)
    joined_is b (p ∷ ps) h =
        let g = append_assoc b p (join_all ps) in
        let l = rw (← g) at h in
        let f = length_of_first (b ++ p) (join_all ps) in
        rw (le-ltb announced (length b + length p) (rw length-append at (le_trans f l)), joined_onto) (joined_is (b ++ p) ps l ∙ g)

    piece-fed : (b p : List ℕ) → length (b ++ p) ≤ announced
        → piece_answer (misfit_in layout 0 b) announced layout b p ≡ (one_feed announced layout nodes (b ++ p)).answer
    piece-fed b p h =
        let one = ap (λ (f : Feeds). f.answer) (one-fed announced layout nodes ok (b ++ p) h) in
        split_option (misfit_in layout 0 b)
        (λ e. rw e (rw (le-ltb announced (length b + length p) (rw length-append at h), piece_answer) (sym one)))
        (λ m e. rw e (ap misfit_answer (sym (misfit-kept announced layout nodes b p e)) ∙ sym one))

    each_fed : (b : List ℕ) (ps : List (List ℕ)) → length (b ++ join_all ps) ≤ announced
        → feed_answers announced layout b ps ≡ map (λ bytes. (one_feed announced layout nodes bytes).answer) (up_to_each b ps)
    unfolding feed_answers up_to_each joined_onto
    each_fed b [] h = refl
    each_fed b (p ∷ ps) h =
        let l = rw (← append_assoc b p (join_all ps)) at h in
        let f = le_trans (length_of_first (b ++ p) (join_all ps)) l in
        ap₂ ◌∷◌ (piece-fed b p f) (rw (le-ltb announced (length b + length p) (rw length-append at f), joined_onto) (each_fed (b ++ p) ps l))

-- however a graph file is cut, it ends as in one piece
pub loads_however_cut : (layout : Layout) (nodes : Graph) (pieces : List (List ℕ)) → LoadsHoweverCut layout nodes (join_all pieces) pieces
loads_however_cut layout nodes pieces =
    let announced = length (join_all pieces) in
    let whole = le_refl announced in
    split_option (first_of (begin_row announced (length nodes)))
    (λ e.
    let p = rw (joined_is announced layout nodes e [] pieces whole) at (pieces-fed announced layout nodes pieces e) in
    record {
      ends = ends announced layout nodes pieces _ _ _ _ _ p (one-fed announced layout nodes e (join_all pieces) whole);
      answered = rw p (each_fed announced layout nodes e [] pieces whole);
    })
    (λ r e.
    let p = pieces_refused announced layout nodes pieces e in
    record {
      ends = ends announced layout nodes pieces _ _ _ _ _ p (refused_one announced layout nodes e (join_all pieces));
      answered = rw p (sym (refused_each announced layout nodes e [] pieces));
    })

-- ---- cut at given lengths
pub cut-joins : (cuts bytes : List ℕ) → join_all (cut_at cuts bytes) ≡ bytes
unfolding cut_at
cut-joins [] bytes = append-nil bytes
cut-joins (c ∷ cuts) bytes = ap (λ r. take c bytes ++ r) (cut-joins cuts (drop c bytes)) ∙ take-append-drop c bytes

-- a file of the announced length loads as in one piece, wherever it is cut
pub cut_anywhere : (layout : Layout) (nodes : Graph) (cuts bytes : List ℕ) → LoadsHoweverCut layout nodes bytes (cut_at cuts bytes)
cut_anywhere layout nodes cuts bytes = rw (cut-joins cuts bytes) at (loads_however_cut layout nodes (cut_at cuts bytes))
