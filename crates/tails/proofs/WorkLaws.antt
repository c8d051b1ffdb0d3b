-- The dictionary's part of the work list: the n roots and the keys after them stand from place n to place 6n.
use Rattle.std.proofs.Common.{◌≡◌, sym, ap, ap₂, ◌∙◌, List, ◌++◌, ℕ, ◌+◌, ◌-◌, ◌*◌, ◌≤◌, ◌<◌, length, get_or, take, drop, arith, length-append, length-take, length-drop, length-take-le, drop_at, append_assoc, replicate}
use Rattle.std.proofs.Math.ListN.{get_or-append}
use Rattle.std.proofs.lemmas.List.{get_or-append_right, length-replicate, get_or-replicate}
use Rattle.laws.specs.Tables.{table_same}
use Rattle.dictionary.specs.Keys.{key_at, keys_in}
use Rattle.shelf.specs.Shelf.{Shelf}
use Rattle.tails.specs.Tails.{HoldsTails, TailsIn}

-- at first its roots are cleared
pub roots_clear : (n : ℕ) (tables f : List ℕ) → length tables ≡ 6 * n
    → (let dict = take (length tables - n) (drop n tables) in f ≡ replicate (length (take n dict)) 0)
    → (let dict = take (length tables - n) (drop n tables) in (5 * n ≤ length (f ++ drop n dict)) × ((p : ℕ) → p < n → get_or (f ++ drop n dict) p 0 ≡ 0))
roots_clear n tables f size e =
    let dict = take (length tables - n) (drop n tables) in
    let long : length dict ≡ 5 * n = simp (length-take, length-drop) (omega arith) in
    let roots : length (take n dict) ≡ n = length-take-le n dict (omega arith) in
    let zeros : f ≡ replicate n 0 = rw roots at e in
    let some : length f ≡ n = rw (zeros, length-replicate) in (
      let a = length-append f (drop n dict) in let b = length-drop n dict in omega arith,
      λ p h. get_or-append f (drop n dict) 0 p (omega arith) ∙ rw zeros (get_or-replicate n p 0 0 h),
    )

-- with n numbers before it and more after it, its tails are those of the work list
pub holds-tails : {n : ℕ} (front dict after : List ℕ) {k : ℕ} {sh : Shelf} → length front ≡ n → HoldsTails n dict k sh
    → TailsIn n (front ++ (dict ++ after)) sh
holds-tails {n} front dict after {k} {sh} e h =
    let room = h.tree.room in
    let size = h.size in
    let few = h.few in
    let rest : drop n (front ++ (dict ++ after)) ≡ dict ++ after = drop_at front (dict ++ after) n e in
    let within : (p : ℕ) → p < 5 * n → get_or (dict ++ after) p 0 ≡ get_or dict p 0 = λ p l. get_or-append dict after 0 p (omega arith) in
    let key : (i : ℕ) → i < length sh → key_at n (dict ++ after) i ≡ key_at n dict i = λ i l.
    ap₂ (λ high low. high * 0x100000000 + low) (within (n + 4 * i + 1) (omega arith)) (within (n + 4 * i) (omega arith)) in
    record {
      small = h.small;
      room = let a = length-append front (dict ++ after) in let b = length-append dict after in omega arith;
      few = omega arith;
      shelves = record {
        are = ap (λ l. keys_in n l (length sh)) rest ∙ table_same (length sh) _ _ key ∙ ap (keys_in n dict) (sym size) ∙ h.shelves.are;
        valid = h.shelves.valid;
        narrow = h.shelves.narrow;
      };
      low = λ i l.
          let b = h.tree.low i (omega arith) in
          let s : 2 * n + 4 * i - n ≡ n + 4 * i = omega arith in
          let at : get_or (front ++ (dict ++ after)) (2 * n + 4 * i) 0 ≡ get_or dict (n + 4 * i) 0 =
          get_or-append_right front (dict ++ after) n (2 * n + 4 * i) 0 e (omega arith) ∙ rw s (within (n + 4 * i) (omega arith)) in
          omega arith;
    }

pub tails-joined : {n : ℕ} (front dict rest marks : List ℕ) {k : ℕ} {sh : Shelf} → length front ≡ n → HoldsTails n dict k sh
    → TailsIn n ((front ++ (dict ++ rest)) ++ marks) sh
tails-joined front dict rest marks e h =
    rw (append_assoc front (dict ++ rest) marks, append_assoc dict rest marks) (holds-tails front dict (rest ++ marks) e h)
