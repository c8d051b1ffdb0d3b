-- On a graph whose every step leads to a node, that does not loop, whose runs ascend and whose words from the start never descend, the
-- alpha sets mean what they say.
use Rattle.std.specs.Prelude.{◌≡◌, Bool, true, ◌≢◌, ◌⊎◌, ◌↔◌, ℕ, ◌≤◌, ◌<◌, eqb, length, drop}
use Rattle.std.proofs.Math.Path.{refl}
use Rattle.std.proofs.Common.{sym, ◌∙◌, subst, inl, inr, zero-le, arith, take_all}
use Rattle.std.proofs.Math.Logic.{⊎_elim}
use mathlib.Core.List.{List, [], ◌∷◌, Memᴰ}
use borrow.Author.Tests.{eqb-true, eqb-false}
use Rattle.std.proofs.Math.Seq.{take-length}
use Rattle.laws.specs.Bits.{has_bit, power_bit}
use Rattle.laws.specs.Cases.{split}
use Rattle.base.specs.Numbers.{flag}
use Rattle.answers.specs.Answers.{gives}
use Rattle.node.specs.Nodes.{kbwg, arc}
use Rattle.graph.specs.Runs.{Graph, node, ascends}
use Rattle.graph.specs.Words.{words, count}
use Rattle.graph.specs.ChecksLaws.{Fit}
use Rattle.graph.specs.Counting.{counts, Loopless}
use Rattle.lookup.specs.Steps.{Try, on, ◌>>=◌, answer, lent_part}
use Rattle.lookup.specs.StepsLaws.{lent-on}
use Rattle.numbers.specs.Walkable.{Walkable}
use Rattle.numbers.specs.LentLaws.{walkable}
use Rattle.laws.specs.Tables.{table-length}
use Rattle.letters.specs.AlphaSets.{completes, cross_from, accepts_alpha, cross_set}
use Rattle.letters.specs.TallyLaws.{tally-fits}
use Rattle.alphagrams.specs.Alphagrams.{alphagram, ReadBelow, AlphagramLexicon, one_more, Accepted, AlphaMeans}
use Rattle.alphagrams.proofs.InsertLaws.{with_letter, starts, alphagram-one-more, one-more-short}
use Rattle.alphagrams.proofs.AcceptsLaws.{Reads, yes, no}
use Rattle.alphagrams.proofs.CrossLaws.{Level, letters_adds, completes-reads}

module _ (g : Graph) (fits : Fit g) (loopless : Loopless g) (up : ascends kbwg g ≡ true) where
  walk : Walkable g g (counts g)
  walk =
      let n = table-length (length g) (count kbwg g) in
      walkable g fits g (counts g)
      (record { nodes-are = take-length g; counts-are = take_all (length g) (counts g) (omega arith) }) loopless

  whole : lent_part g ≡ g
  whole = take_all 4_294_967_296 g (let m = fits.most in omega arith)

  some-node : 0 < length g
  some-node = let m = fits.two in omega arith

  -- ---- `accepts_alpha`, on any such graph
  data AlphaDecided (tally : List ℕ) : Type 0 where
    accepted : Accepted g tally → ReadBelow g 0 (alphagram tally) → AlphaDecided tally
    rejected : accepts_alpha g tally ≡ gives (0 ∷ []) → (ReadBelow g 0 (alphagram tally) → ⊥) → AlphaDecided tally

  alpha_decided : (tally : List ℕ) → length tally ≤ 64 → AlphaDecided tally
  unfolding accepts_alpha
  alpha_decided tally short = by-walk (completes g tally 1 0) refl (completes-reads g (counts g) walk up tally 1 0 some-node)
    where
      says : {b : Bool} → completes g tally 1 0 ≡ on b → accepts_alpha g tally ≡ gives (flag b ∷ [])
      says e = rw (tally-fits tally short, whole, e)

      by-walk : (x : Try Bool) → completes g tally 1 0 ≡ x → Reads g (counts g) walk up 0 (alphagram tally) x → AlphaDecided tally
      by-walk x e (yes r) = accepted (says e) r
      by-walk x e (no r) = rejected (says e) r

  differ : (tally : List ℕ) → Accepted g tally → accepts_alpha g tally ≡ gives (0 ∷ []) → ⊥
  differ tally a b = let z : ◌≡◌ {A = ℕ} 0 1 = let e : gives (0 ∷ []) ≡ gives (1 ∷ []) = sym b ∙ a in cc in omega arith

  means : (tally : List ℕ) → AlphaDecided tally → Accepted g tally ↔ ReadBelow g 0 (alphagram tally)
  means tally (accepted a r) = ((λ z. r), (λ z. a))
  means tally (rejected a r) = ((λ z. absurd (differ tally z a)), (λ z. absurd (r z)))

  answered : (tally : List ℕ) → AlphaDecided tally → Accepted g tally ⊎ (accepts_alpha g tally ≡ gives (0 ∷ []))
  answered tally (accepted a r) = inl a
  answered tally (rejected a r) = inr a

  -- ---- the cross set, where no word from the start descends
  module _ (level : AlphagramLexicon g) (tally : List ℕ) (short : length tally ≤ 64) where
    from_start : Level g (counts g) walk up 0 (arc kbwg (node g 0))
    from_start [] m = tt
    from_start (a ∷ w) m = (zero-le, level (a ∷ w) m)

    no-bit : (t : ℕ) → 0 < t → has_bit 1 t ≡ true → ⊥
    no-bit t h e = let z = eqb-true t 0 (sym (power_bit 0 t) ∙ e) in omega arith

    -- a word with a letter more has a first letter, so it is read below node 0 by the arc
    read-start : (t : ℕ) → ReadBelow g 0 (with_letter t (alphagram tally))
        ↔ ((arc kbwg (node g 0) ≢ 0) × Memᴰ (with_letter t (alphagram tally)) (words kbwg g (arc kbwg (node g 0))))
    read-start t =
        let s = starts t (alphagram tally) in (
          (λ r. let k = subst (ReadBelow g 0) s.is r in (k.0, subst (λ w. Memᴰ w (words kbwg g (arc kbwg (node g 0)))) (sym s.is) k.1)),
          (λ r. subst (ReadBelow g 0) (sym s.is) (r.0, subst (λ w. Memᴰ w (words kbwg g (arc kbwg (node g 0)))) s.is r.1)),
        )

    record Cross : Type 0 where
      set : ℕ
      says : cross_from g tally ≡ gives (set ∷ [])
      means : (t : ℕ) → 0 < t → has_bit set t ≡ true ↔ ReadBelow g 0 (with_letter t (alphagram tally))

    cross : Cross
    unfolding cross_from
    cross =
        split (eqb (arc kbwg (node g 0)) 0)
        (λ z. record {
          set = 1;
          says = rw (lent-on g 0 some-node, cross_from) (rw (z, answer, ◌>>=◌));
          means = λ t h. ((λ e. absurd (no-bit t h e)), (λ r. absurd (((read-start t).0 r).0 (eqb-true (arc kbwg (node g 0)) 0 z))));
        })
        (λ z.
        let n = eqb-false (arc kbwg (node g 0)) 0 z in
        let a = letters_adds g (counts g) walk up tally (drop 1 tally) 1 0 (arc kbwg (node g 0)) 1 refl (fits.steps.arcs 0 some-node) from_start in
        record {
          set = a.set;
          says = rw (lent-on g 0 some-node, cross_from) (rw (z, answer, ◌>>=◌) a.is);
          means = λ t h. (
            (λ e. (read-start t).1 (n, ⊎_elim (λ k. absurd (no-bit t h k)) (λ k. k) ((a.bit t).0 e))),
            (λ r. (a.bit t).1 (inr ((read-start t).0 r).1)),
          );
        })

    pub alpha-means : AlphaMeans g tally
    unfolding cross_set
    alpha-means = record {
      answers = answered tally (alpha_decided tally short);
      accepts-means = means tally (alpha_decided tally short);
      set = cross.set;
      cross-says = rw (tally-fits tally short, whole) cross.says;
      cross-means = λ t h k.
          let c = cross.means t h in
          let m = means (one_more t tally) (alpha_decided (one_more t tally) (one-more-short t tally k short)) in
          let e = alphagram-one-more t tally h in (
            (λ x. m.1 (subst (ReadBelow g 0) (sym e) (c.0 x))),
            (λ x. c.1 (subst (ReadBelow g 0) e (m.0 x))),
          );
    }
