-- What the writers of files reply to the words and the bytes of a case: the fields of the flat answer, and then the file.
use Rattle.std.specs.Prelude.{List, [], ◌∷◌, ◌++◌, ℕ, get_or, take, drop}
use Rattle.export.specs.Written.{Written}
use Rattle.macondo_file.specs.Row.{to_macondo}
use Rattle.macondo.specs.Said.{format_of}
use Rattle.lxd_file.specs.Row.{to_lxd}
use Rattle.flat.specs.FlatFiles.{format_numbered, flat_file}
use Rattle.flat.specs.declared.files.FlatFile.{FlatFile}

abbrev pub file_fields : FlatFile → List ℕ
file_fields r = r.refusal ∷ r.arc ∷ r.written ∷ []

abbrev pub written_reply : Written → List ℕ
written_reply w = file_fields (flat_file w.answer) ++ take (flat_file w.answer).written w.bytes

-- FORMAT L, L labels and the nodes; the name
unfoldable pub macondo_reply : List ℕ → List ℕ → ℕ → List ℕ → List ℕ
macondo_reply ws name work lent =
    let n = get_or ws 1 0 in
    let rest = drop 2 ws in
    written_reply (to_macondo (drop n rest) (take n rest) name (format_of (format_numbered (get_or ws 0 0))) work lent)

-- L T D, L labels, T code points of the title, D of the date, and the nodes
unfoldable pub lxd_reply : List ℕ → ℕ → List ℕ → List ℕ
lxd_reply ws work lent =
    let labels = drop 3 ws in
    let title = drop (get_or ws 0 0) labels in
    let date = drop (get_or ws 1 0) title in
    written_reply (to_lxd (drop (get_or ws 2 0) date) (take (get_or ws 0 0) labels) (take (get_or ws 1 0) title) (take (get_or ws 2 0) date) work lent)
