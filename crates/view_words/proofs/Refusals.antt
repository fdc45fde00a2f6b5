-- What the refusal of a word, and of a line, says.
use Rattle.std.proofs.Common.{◌≡◌, ℕ, ◌<◌, ◌≤◌, List, [], ◌∷◌, Some, None, Bool, true, false, cond, length, inl, inr, refl, sym, ◌∙◌, ap}
use Rattle.std.proofs.lemmas.Bool.{cases_lt, not-true}
use Rattle.std.proofs.lemmas.Slice.Eq.{bytes_eq-Decides}
use Rattle.std.specs.Option.{option_map_or}
use Rattle.std.specs.List.{find}
use Rattle.std.specs.Str.{bytes_eq}
use Rattle.std.specs.Prelude.{not}
use Rattle.view_base.proofs.Fitting.{misfit-at, misfit-short, misfit-none, fits-each, fits-whole}
use Rattle.view_base.specs.Fitting.{word_at}
use Rattle.view_words.specs.declared.row.Row.{Row}
use Rattle.view_words.specs.declared.row.Row.TheVariants.{Draw, Info, Trial, Serve}
use Rattle.view_words.specs.declared.kind.WordKind.{WordKind}
use Rattle.view_words.specs.CommandLine.{command, all_rows, row_in, kind_at, is_refused, is_whole, badword_in, badword, IsLine}
use Rattle.view_words.proofs.Places.{find_passes}

-- a word of a known kind
pub is_refused-kind : (row : Row) (ws : List (List ℕ)) (k : ℕ) (kind : WordKind) → kind_at row k ≡ kind → is_refused (kind_at row k) row ws k ≡ is_refused kind row ws k
is_refused-kind row ws k kind is = ap (λ (kind : WordKind). is_refused kind row ws k) is

-- no row has a word at place 36
pub is_refused-past : (row : Row) (ws : List (List ℕ)) → is_refused (kind_at row 36) row ws 36 ≡ true
unfolding kind_at
is_refused-past Draw ws = refl
is_refused-past Info ws = refl
is_refused-past Trial ws = refl
is_refused-past Serve ws = refl

-- so many words that none is refused are at most 36
pub unrefused_few : (row : Row) (ws : List (List ℕ)) (n : ℕ) → ((k : ℕ) → k < n → is_refused (kind_at row k) row ws k ≡ false) → n ≤ 36
unrefused_few row ws n none =
    elim (cases_lt 36 n) [
      | inl longer ↦ absurd (cc (none 36 longer, is_refused-past row ws))
      | inr few ↦ few
    ]

-- a refused word after words that aren't
pub badword_in-refused : (row : Row) (ws : List (List ℕ)) (at : ℕ) → at < length ws → ((k : ℕ) → k < at → is_refused (kind_at row k) row ws k ≡ false) → is_refused (kind_at row at) row ws at ≡ true → badword_in row ws ≡ Some at
unfolding badword_in
badword_in-refused row ws at below before here = misfit-at _ _ ws at below (λ k early. ap not (before k early)) (ap not here)

-- words of which none is refused, and one is missing
pub badword_in-missing : (row : Row) (ws : List (List ℕ)) → ((k : ℕ) → k < length ws → is_refused (kind_at row k) row ws k ≡ false) → is_whole row (length ws) ≡ false → badword_in row ws ≡ Some (length ws)
unfolding badword_in
badword_in-missing row ws none part = misfit-short _ _ ws (λ k below. ap not (none k below)) part

-- words of which none is refused or missing
pub badword_in-none : (row : Row) (ws : List (List ℕ)) → ((k : ℕ) → k < length ws → is_refused (kind_at row k) row ws k ≡ false) → is_whole row (length ws) ≡ true → badword_in row ws ≡ None
unfolding badword_in
badword_in-none row ws none whole = misfit-none _ _ ws (λ k below. ap not (none k below)) whole

-- in words that fit none is refused and none is missing
pub unrefused : (row : Row) (ws : List (List ℕ)) → badword_in row ws ≡ None → (k : ℕ) → k < length ws → is_refused (kind_at row k) row ws k ≡ false
unfolding badword_in
unrefused row ws fits k below = not-true (is_refused (kind_at row k) row ws k) (fits-each (λ k word. not (is_refused (kind_at row k) row ws k)) (is_whole row) ws k fits below)

pub whole : (row : Row) (ws : List (List ℕ)) → badword_in row ws ≡ None → is_whole row (length ws) ≡ true
unfolding badword_in
whole row ws fits = fits-whole (λ k word. not (is_refused (kind_at row k) row ws k)) (is_whole row) ws fits

-- words that begin one of the rows that are taken, or none of them
pub badword-begun : (rows : List Row) (row : Row) (ws : List (List ℕ)) → row_in rows ws ≡ Some row → badword rows ws ≡ badword_in row ws
unfolding badword
badword-begun rows row ws begun = rw begun refl

pub badword-unbegun : (rows : List Row) (ws : List (List ℕ)) → row_in rows ws ≡ None → badword rows ws ≡ Some 0
unfolding badword
badword-unbegun rows ws none = rw none refl

-- words that begin with a row's command, where that row alone is taken
pub row_in-own : (row : Row) (ws : List (List ℕ)) → bytes_eq (word_at ws 0) (command row) ≡ true → row_in (row ∷ []) ws ≡ Some row
row_in-own row ws begins = rw begins refl

pub row_in-other : (row : Row) (ws : List (List ℕ)) → bytes_eq (word_at ws 0) (command row) ≡ false → row_in (row ∷ []) ws ≡ None
row_in-other row ws begins = rw begins refl

-- words begin with the command of the row that they begin
pub begins_with : (rows : List Row) (row : Row) (ws : List (List ℕ)) → row_in rows ws ≡ Some row → bytes_eq (word_at ws 0) (command row) ≡ true
begins_with rows row ws begun = find_passes (λ (row : Row). bytes_eq (word_at ws 0) (command row)) rows row begun

-- the row that words begin, taken alone, says the same of them
pub badword-row : (rows : List Row) (row : Row) (ws : List (List ℕ)) → row_in rows ws ≡ Some row → badword (row ∷ []) ws ≡ badword rows ws
badword-row rows row ws begun = badword-begun (row ∷ []) row ws (row_in-own row ws (begins_with rows row ws begun)) ∙ sym (badword-begun rows row ws begun)

own : (row : Row) (ws : List (List ℕ)) (b : Bool) → option_map_or (λ row. badword_in row ws) (cond b (Some row) None) (Some 0) ≡ None → (b ≡ true) × (badword_in row ws ≡ None)
own row ws true fits = (refl, fits)
own row ws false fits = absurd (cc fits)

-- a line of a row begins with its command, and the row says nothing against it
pub line_begins : (row : Row) (ws : List (List ℕ)) → IsLine row ws → (bytes_eq (word_at ws 0) (command row) ≡ true) × (badword_in row ws ≡ None)
unfolding badword
line_begins row ws fits = own row ws (bytes_eq (word_at ws 0) (command row)) fits

-- the row of a line is the one that its words begin
pub row_in-line : (row : Row) (ws : List (List ℕ)) → IsLine row ws → row_in all_rows ws ≡ Some row
row_in-line row ws line = only row (word_at ws 0) ((bytes_eq-Decides (word_at ws 0) (command row)).0 (line_begins row ws line).0)
  where
    only : (row : Row) (word : List ℕ) → word ≡ command row → find (λ (row : Row). bytes_eq word (command row)) all_rows ≡ Some row
    only Draw word is = rw is refl
    only Info word is = rw is refl
    only Trial word is = rw is refl
    only Serve word is = rw is refl

-- a line of one row fits where all rows are taken
pub badword-line : (row : Row) (ws : List (List ℕ)) → IsLine row ws → badword all_rows ws ≡ None
badword-line row ws line = sym (badword-row all_rows row ws (row_in-line row ws line)) ∙ line
