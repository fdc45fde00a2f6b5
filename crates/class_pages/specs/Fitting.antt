-- Classes that a point data record format has room for.
use Rattle.std.specs.Prelude.{ℕ, ◌≤◌, List, All}
use Rattle.view_meaning.specs.Classes.{top_class}

-- each of a list of classes is at most the format's greatest
abbrev pub EachFits : ℕ → List ℕ → Type 0
EachFits format cs = All (λ class. class ≤ top_class format) cs
