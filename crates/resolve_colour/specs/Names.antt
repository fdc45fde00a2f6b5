-- Words that name records of a survey, and the bytes that show these.
use Rattle.std.specs.Prelude.{◌≡◌, ℕ, ◌*◌, ◌-◌, ◌<◌, ◌≤◌, All, IfSome, List, length, take, drop, replicate, true}
use Rattle.std.specs.List.{flat_map}
use Rattle.view_base.specs.declared.colour.Colouring.{Colouring}
use Rattle.view_meaning.specs.Frame.{record_in, word_colour}
use Rattle.view_meaning.specs.Picture as picture
use Rattle.view_meaning.specs.Survey.{record_count, format_of}
use Rattle.resolve_colour.specs.declared.records.Records.{Records}

-- a word is empty or names one of so many records
abbrev pub NamesOne : ℕ → ℕ → Type 0
NamesOne count word = IfSome (record_in word) (λ i. i < count)

-- the items from `first` to before `end`
abbrev pub part : {X : Type 0} → ℕ → ℕ → List X → List X
part first end xs = take (end - first) (drop first xs)

-- the bytes of the words from `first` to before `end`, three for each
abbrev pub part_colours : Records → Colouring → List ℕ → ℕ → ℕ → List ℕ
part_colours shown colouring words first end = flat_map (word_colour shown.survey.now shown.classes.now colouring) (part first end words)

-- bytes to be written are black, three for each word from `first` to before `end`, and each word can be painted under these classes
pub record IsPaintable (shown : Records) (colouring : Colouring) (words : List ℕ) (first end : ℕ) (colours : List ℕ) : Type 0 where
  pub can_colour : picture.can_colour (format_of shown.survey.now) colouring ≡ true
  pub names : All (NamesOne (record_count shown.survey.now)) words
  pub records : length shown.classes.now ≡ record_count shown.survey.now
  pub order : first ≤ end
  pub within : end ≤ length words
  pub black : colours ≡ replicate (3 * (end - first)) 0
