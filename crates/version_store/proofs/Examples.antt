-- A history worked by hand: caller 1 pins version 0, caller 2 publishes an edit and pins version 1, and caller 1
-- gives its pin back.
use Rattle.std.proofs.Common.{◌≡◌, List, [], ◌∷◌, take, refl}
use Rattle.view_meaning.specs.Classes as meaning
use Rattle.version_store.specs.declared.history.What.TheVariants.{Publish, Pin, Unpin}
use Rattle.version_store.specs.declared.history.Entry.{Entry}
use Rattle.version_store.specs.Histories.{journal, numbered, entries_by, is_pin, how_many, held}
use Rattle.version_store.proofs.HistoryLaws.{entry_by}

abbrev worked : meaning.Edit → List Entry
worked edit = entry_by 1 Pin ∷ entry_by 2 (Publish edit) ∷ entry_by 2 Pin ∷ entry_by 1 (Unpin 0) ∷ []

one_edit : (edit : meaning.Edit) → journal (worked edit) ≡ edit ∷ []
unfolding journal
one_edit edit = refl

-- after three entries both versions are held, each by one pin
both_held : (edit : meaning.Edit) → held (take 3 (worked edit)) ≡ (0, 1) ∷ (1, 1) ∷ []
unfolding held journal numbered
both_held edit = refl

-- once it is given back, version 0 is held no more
newest_held : (edit : meaning.Edit) → held (worked edit) ≡ (1, 1) ∷ []
unfolding held journal numbered
newest_held edit = refl

-- what is not pinned and not the newest is not held, and the newest is held without pins
none_pinned : (edit : meaning.Edit) → held (entry_by 1 (Publish edit) ∷ []) ≡ (1, 0) ∷ []
unfolding held journal numbered
none_pinned edit = refl

-- caller 2 has pinned version 1 and not version 0
own_pins : (edit : meaning.Edit) → (how_many (is_pin 1) (entries_by 2 (numbered 0 (worked edit))) ≡ 1) × (how_many (is_pin 0) (entries_by 2 (numbered 0 (worked edit))) ≡ 0)
unfolding numbered
own_pins edit = (refl, refl)
