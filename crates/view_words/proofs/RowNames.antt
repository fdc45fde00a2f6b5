-- The names of a `draw`, an `info`, a `trial` and a `serve` that fit.
use Rattle.std.proofs.Common.{◌≡◌, ◌≢◌, ℕ, ◌+◌, ◌*◌, ◌<◌, List, [], length, arith}
use Rattle.std.specs.Prelude.{codes}
use Rattle.view_base.specs.Fitting.{word_at}
use Rattle.view_words.specs.declared.row.Row.TheVariants.{Draw, Info, Trial, Serve}
use Rattle.view_words.specs.CommandLine.{IsLine}
use Rattle.view_words.proofs.Lines.{length-draw, length-info, length-trial, length-serve}
use Rattle.view_words.proofs.RowPlaces.{kind_at-in, kind_at-out}
use Rattle.view_words.proofs.Names.{read_named, written_named, read_once, written_once, read_and_written, kind_at-draw, kind_at-info, kind_at-trial, kind_at-serve}

-- the survey and the picture of a `draw` are named, and differ unless both are `-`
pub names-draw : (ws : List (List ℕ)) → IsLine Draw ws → (word_at ws 1 ≢ []) × (word_at ws 2 ≢ []) × (word_at ws 1 ≡ word_at ws 2 → word_at ws 1 ≡ codes "-")
names-draw ws line =
    let size = length-draw ws line in (
      read_named Draw ws 1 line (omega (arith, size)) kind_at-draw.0,
      written_named Draw ws 2 line (omega (arith, size)) kind_at-draw.1,
      read_and_written Draw ws 1 2 line (omega (arith, size)) (omega (arith, size)) kind_at-draw.0 kind_at-draw.1,
    )

-- the survey and the text of an `info` are named, and differ unless both are `-`
pub names-info : (ws : List (List ℕ)) → IsLine Info ws → (word_at ws 1 ≢ []) × (word_at ws 2 ≢ []) × (word_at ws 1 ≡ word_at ws 2 → word_at ws 1 ≡ codes "-")
names-info ws line =
    let size = length-info ws line in (
      read_named Info ws 1 line (omega (arith, size)) kind_at-info.0,
      written_named Info ws 2 line (omega (arith, size)) kind_at-info.1,
      read_and_written Info ws 1 2 line (omega (arith, size)) (omega (arith, size)) kind_at-info.0 kind_at-info.1,
    )

-- the summary of a `trial` is named
pub names-trial : (ws : List (List ℕ)) → IsLine Trial ws → word_at ws 4 ≢ []
names-trial ws line = written_named Trial ws 4 line (omega (arith, length-trial ws line)) kind_at-trial

few : (ws : List (List ℕ)) (n k : ℕ) → IsLine Serve ws → length ws ≡ 4 + 2 * n → k < n → k < 16
few ws n k line size within = let pairs = length-serve ws line in omega (arith, pairs.0, pairs.2, size)

-- each IN of a `serve` of n pairs is another one
pub ins_differ : (ws : List (List ℕ)) (n j k : ℕ) → IsLine Serve ws → length ws ≡ 4 + 2 * n → j < n → k < n → word_at ws (4 + 2 * j) ≡ word_at ws (4 + 2 * k) → j ≡ k
ins_differ ws n j k line size in_j in_k same =
    let one : 4 + 2 * j ≡ 4 + 2 * k = read_once Serve ws (4 + 2 * j) (4 + 2 * k) line (omega (arith, size)) (omega (arith, size)) (kind_at-in j (few ws n j line size in_j)) (kind_at-in k (few ws n k line size in_k)) same in
    omega arith

-- each OUT is another one
pub outs_differ : (ws : List (List ℕ)) (n j k : ℕ) → IsLine Serve ws → length ws ≡ 4 + 2 * n → j < n → k < n → word_at ws (5 + 2 * j) ≡ word_at ws (5 + 2 * k) → j ≡ k
outs_differ ws n j k line size in_j in_k same =
    let one : 5 + 2 * j ≡ 5 + 2 * k = written_once Serve ws (5 + 2 * j) (5 + 2 * k) line (omega (arith, size)) (omega (arith, size)) (kind_at-out j (few ws n j line size in_j)) (kind_at-out k (few ws n k line size in_k)) same in
    omega arith

-- no IN is the survey
pub in_not_survey : (ws : List (List ℕ)) (n k : ℕ) → IsLine Serve ws → length ws ≡ 4 + 2 * n → k < n → word_at ws (4 + 2 * k) ≢ word_at ws 1
in_not_survey ws n k line size in_k same =
    let one : 4 + 2 * k ≡ 1 = read_once Serve ws (4 + 2 * k) 1 line (omega (arith, size)) (omega (arith, size)) (kind_at-in k (few ws n k line size in_k)) kind_at-serve.0 same in
    absurd (omega arith)

-- no OUT is the journal
pub out_not_journal : (ws : List (List ℕ)) (n k : ℕ) → IsLine Serve ws → length ws ≡ 4 + 2 * n → k < n → word_at ws (5 + 2 * k) ≢ word_at ws 3
out_not_journal ws n k line size in_k same =
    let one : 5 + 2 * k ≡ 3 = written_once Serve ws (5 + 2 * k) 3 line (omega (arith, size)) (omega (arith, size)) (kind_at-out k (few ws n k line size in_k)) kind_at-serve.1 same in
    absurd (omega arith)

-- an IN that is an OUT too is `-`
pub in_and_out : (ws : List (List ℕ)) (n j k : ℕ) → IsLine Serve ws → length ws ≡ 4 + 2 * n → j < n → k < n → word_at ws (4 + 2 * j) ≡ word_at ws (5 + 2 * k) → word_at ws (4 + 2 * j) ≡ codes "-"
in_and_out ws n j k line size in_j in_k same =
    read_and_written Serve ws (4 + 2 * j) (5 + 2 * k) line (omega (arith, size)) (omega (arith, size)) (kind_at-in j (few ws n j line size in_j)) (kind_at-out k (few ws n k line size in_k)) same
