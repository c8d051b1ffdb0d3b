-- The flat answers of the writers, over the inputs read from the words of a case, have the fields of the reply, and the file follows.
use mathlib.Core.Path.{◌≡◌, ap, ◌∙◌}
use mathlib.Core.List.{List, ◌++◌}
use Prim.Native.Nat.{ℕ}
use lib.ListN.{get_or, take, drop}
use Rattle.export.specs.Written.{Written}
use Rattle.macondo_file.specs.Row.{to_macondo}
use Rattle.macondo.specs.Said.{format_of}
use Rattle.lxd_file.specs.Row.{to_lxd}
use Rattle.flat.specs.FlatFiles.{format_numbered, file_of, file_written, flat_file}
use Rattle.flat.specs.declared.files.FlatFile.{FlatFile}
use Rattle.replay.specs.Files.{file_fields, written_reply, macondo_reply, lxd_reply}

written-replies : (r : FlatFile) (after : List ℕ) (w : Written) → file_written r after ≡ w → r ≡ flat_file (file_of r)
    → file_fields r ++ take r.written after ≡ written_reply w
written-replies r after w e flat = rw (← e) (ap (λ (x : FlatFile). file_fields x ++ take x.written after) flat)

module _ (ws : List ℕ) (r : FlatFile) (after lent : List ℕ) (work : ℕ) (flat : r ≡ flat_file (file_of r)) where
  pub macondo-replies : (name rest g labels : List ℕ) (n f : ℕ) → n ≡ get_or ws 1 0 → rest ≡ drop 2 ws → g ≡ drop n rest → labels ≡ take n rest
      → f ≡ get_or ws 0 0 → file_written r after ≡ to_macondo g labels name (format_of (format_numbered f)) work lent
      → file_fields r ++ take r.written after ≡ macondo_reply ws name work lent
  unfolding macondo_reply
  macondo-replies name rest g labels n f en er eg el ef e =
      let args : to_macondo g labels name (format_of (format_numbered f)) work lent
      ≡ to_macondo (drop (get_or ws 1 0) (drop 2 ws)) (take (get_or ws 1 0) (drop 2 ws)) name (format_of (format_numbered (get_or ws 0 0))) work lent
      = rw (eg, el, ef, en, er) in
      written-replies r after _ (e ∙ args) flat

  pub lxd-replies : (labels title date g ls ts ds : List ℕ) (l t d : ℕ) → labels ≡ drop 3 ws → l ≡ get_or ws 0 0 → title ≡ drop l labels → t ≡ get_or ws 1 0
      → date ≡ drop t title → d ≡ get_or ws 2 0 → g ≡ drop d date → ls ≡ take l labels → ts ≡ take t title → ds ≡ take d date
      → file_written r after ≡ to_lxd g ls ts ds work lent → file_fields r ++ take r.written after ≡ lxd_reply ws work lent
  unfolding lxd_reply
  lxd-replies labels title date g ls ts ds l t d elabels el etitle et edate ed eg els ets eds e =
      let args : to_lxd g ls ts ds work lent
      ≡ (let labels' = drop 3 ws in
      let title' = drop (get_or ws 0 0) labels' in
      let date' = drop (get_or ws 1 0) title' in
      to_lxd (drop (get_or ws 2 0) date') (take (get_or ws 0 0) labels') (take (get_or ws 1 0) title') (take (get_or ws 2 0) date') work lent)
      = rw (eg, els, ets, eds, edate, etitle, elabels, el, et, ed) in
      written-replies r after _ (e ∙ args) flat
