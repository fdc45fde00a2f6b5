-- What the calls on a shared store make of a session.
use Rattle.std.proofs.Common.{◌≡◌, ℕ, ◌-◌, ◌≤◌, List, [], ◌∷◌, ◌++◌, length, take, Ok, Err, IfOk, refl, sym, ap, subst, ◌∙◌, arith, append_assoc, append-nil}
use Rattle.std.proofs.lemmas.List.{take_all, take_at}
use Rattle.turn_gate.specs.Meaning.{Passed}
use Rattle.turn_gate.proofs.Beginnings.{prefix_self, prefix_trans}
use Rattle.view_meaning.specs.Classes as meaning
use Rattle.view_meaning.specs.Picture.{View as PictureView}
use Rattle.view_lines.specs.declared.command.Command.TheVariants.{View, Edit, Count, Save}
use Rattle.view_lines.specs.declared.refusal.Refusal.{Refusal}
use Rattle.version_store.specs.declared.history.What.{What}
use Rattle.version_store.specs.declared.history.What.TheVariants.{Publish, Pin, Unpin}
use Rattle.version_store.specs.declared.history.Entry.{Entry}
use Rattle.version_store.specs.Histories.{journal, numbered, entries_by}
use Rattle.version_store.specs.Sharing.{IsOwn, MakesOne, MakesNone}
use Rattle.version_store.specs.Store.{Pinned}
use Rattle.version_store.proofs.SharedCalls.{entries_by-made, entries_by-refused}
use Rattle.sessions.specs.Session.{Item, version, Makes}
use Rattle.sessions.specs.Talk.{Made, Adds, last_mark}
use Rattle.sessions.proofs.Later.{journal-later}
use Rattle.sessions.proofs.News.{length-journal_later}

-- the entry that a pass makes, with the newest version once it is made
abbrev numbered_entry : What → Passed Entry → Passed Entry → Entry × ℕ
numbered_entry what old new = (record { who = old.who; what = what }, length (journal new.seen))

pub made_one : (what : What) (old new : Passed Entry) → IsOwn old → IsOwn new → MakesOne what old new → Made old new (numbered_entry what old new ∷ [])
made_one what old new before after made =
    let entry : Entry = record { who = old.who; what = what } in
    record {
      begins = (made.others ++ entry ∷ [], sym (append_assoc old.seen made.others (entry ∷ [])) ∙ sym made.seen);
      entries = entries_by-made what old new before after made;
      pass = made.pass ∙ ap (λ (mine : List Entry). record old { seen = new.seen; mine = mine }) (sym (ap (λ (p : Passed Entry). p.mine) made.pass));
    }

pub made_none : (old new : Passed Entry) → IsOwn old → IsOwn new → MakesNone old new → Made old new []
made_none old new before after none = record {
  begins = none.seen;
  entries = entries_by-refused old new before after none ∙ sym (append-nil (entries_by old.who (numbered 0 old.seen)));
  pass = none.pass ∙ ap (λ (mine : List Entry). record old { seen = new.seen; mine = mine }) (sym (ap (λ (p : Passed Entry). p.mine) none.pass));
}

pub made_nothing : (pass : Passed Entry) → Made pass pass []
made_nothing pass = record {
  begins = prefix_self pass.seen;
  entries = sym (append-nil (entries_by pass.who (numbered 0 pass.seen)));
  pass = refl;
}

pub made_then : (old mid new : Passed Entry) (first then : List (Entry × ℕ)) → Made old mid first → Made mid new then → Made old new (first ++ then)
made_then old mid new first then one two =
    let who : mid.who ≡ old.who = ap (λ (p : Passed Entry). p.who) one.pass in
    let before = entries_by old.who (numbered 0 old.seen) in
    let more : entries_by old.who (numbered 0 new.seen) ≡ entries_by old.who (numbered 0 mid.seen) ++ then =
    subst (λ (n : ℕ). entries_by n (numbered 0 new.seen) ≡ entries_by n (numbered 0 mid.seen) ++ then) who two.entries in
    record {
      begins = prefix_trans old.seen mid.seen new.seen one.begins two.begins;
      entries = more ∙ ap (λ (l : List (Entry × ℕ)). l ++ then) one.entries ∙ append_assoc before first then;
      pass = two.pass ∙ ap (λ (p : Passed Entry). record p { seen = new.seen; mine = new.mine }) one.pass;
    }

-- a version was pinned, marked and given back
pub record IsShown (b : List ℕ) (old mid new : Passed Entry) (marks more : List ℕ) (v : ℕ) (cs : List ℕ) : Type 0 where
  pub before : IsOwn old
  pub between : IsOwn mid
  pub after : IsOwn new
  pub pinned : MakesOne Pin old mid
  pub given : MakesOne (Unpin v) mid new
  pub version : v ≡ length (journal mid.seen)
  pub classes : cs ≡ meaning.classes b (journal mid.seen)
  pub marked : more ≡ marks ++ v ∷ []

-- in the words of the calls
pub shown_by : (b at : List ℕ) (old mid new : Passed Entry) (marks room more : List ℕ) (v : ℕ) (pin : Pinned) → at ≡ b → IsOwn old → IsOwn mid → IsOwn new → MakesOne Pin old mid
    → pin ≡ record { who = old.who; version = length (journal mid.seen); classes = meaning.classes at (journal mid.seen) }
    → v ≡ pin.version → room ≡ marks → more ≡ room ++ v ∷ [] → MakesOne (Unpin pin.version) mid new → IsShown b old mid new marks more v pin.classes
shown_by b at old mid new marks room more v pin same before between after pinned is told room_is is_marked given = record {
  before = before;
  between = between;
  after = after;
  pinned = pinned;
  given = subst (λ (n : ℕ). MakesOne (Unpin n) mid new) (sym told) given;
  version = told ∙ ap (λ (p : Pinned). p.version) is;
  classes = ap (λ (p : Pinned). p.classes) is ∙ ap (λ (l : List ℕ). meaning.classes l (journal mid.seen)) same;
  marked = is_marked ∙ ap (λ (l : List ℕ). l ++ v ∷ []) room_is;
}

-- an item that pins a version and gives it back
abbrev pub MakesShown : Item → Type 0
MakesShown item = (last mark : ℕ) (at after : Entry × ℕ) → at.0.what ≡ Pin → mark ≡ at.1 → after.0.what ≡ Unpin mark → Makes last (item ∷ []) (mark ∷ []) (at ∷ after ∷ [])

pub makes_view : (view : PictureView) → MakesShown (Ok (View view))
unfolding Makes
makes_view view last mark at after pin is unpin = (pin, is, unpin, tt)

pub makes_count : (filter : meaning.Filter) → MakesShown (Ok (Count filter))
unfolding Makes
makes_count filter last mark at after pin is unpin = (pin, is, unpin, tt)

pub makes_save : MakesShown (Ok Save)
unfolding Makes
makes_save last mark at after pin is unpin = (pin, is, unpin, tt)

newer_than : (item : Item) (n mark : ℕ) → n ≤ mark → IfOk item (λ command. n ≤ mark)
newer_than (Ok command) n mark newer = newer
newer_than (Err refusal) n mark newer = tt

shown_made : (b : List ℕ) (old mid new : Passed Entry) (marks more : List ℕ) (v : ℕ) (cs : List ℕ) → IsShown b old mid new marks more v cs
    → Made old new (numbered_entry Pin old mid ∷ numbered_entry (Unpin v) mid new ∷ [])
shown_made b old mid new marks more v cs shown =
    made_then old mid new (numbered_entry Pin old mid ∷ []) (numbered_entry (Unpin v) mid new ∷ []) (made_one Pin old mid shown.before shown.between shown.pinned) (made_one (Unpin v) mid new shown.between shown.after shown.given)

pub shown_adds : (b : List ℕ) (old mid new : Passed Entry) (marks more : List ℕ) (v : ℕ) (cs : List ℕ) (item : Item) → IsShown b old mid new marks more v cs → MakesShown item
    → Adds (record { pass = old; marks = marks }) (record { pass = new; marks = more }) item
shown_adds b old mid new marks more v cs item shown makes =
    let pinned = made_one Pin old mid shown.before shown.between shown.pinned in
    let newer : length (journal old.seen) ≤ v = omega (arith, shown.version, length-journal_later old.seen mid.seen pinned.begins) in
    record {
      mark = v;
      entries = numbered_entry Pin old mid ∷ numbered_entry (Unpin v) mid new ∷ [];
      made = shown_made b old mid new marks more v cs shown;
      makes = makes (last_mark marks) v (numbered_entry Pin old mid) (numbered_entry (Unpin v) mid new) refl shown.version refl;
      newer = newer_than item (length (journal old.seen)) v newer;
      marks = shown.marked;
    }

-- the version that was pinned, in what was seen afterwards
pub version_shown : (b : List ℕ) (old mid new : Passed Entry) (marks more : List ℕ) (v : ℕ) (cs : List ℕ) → IsShown b old mid new marks more v cs → version b (journal new.seen) v ≡ cs
unfolding version
version_shown b old mid new marks more v cs shown =
    let given = made_one (Unpin v) mid new shown.between shown.after shown.given in
    let later = journal-later mid.seen new.seen given.begins in
    ap (λ (l : List meaning.Edit). meaning.classes b (take v l)) (sym later.1)
    ∙ ap (λ (l : List meaning.Edit). meaning.classes b l) (take_at (journal mid.seen) later.0 v (sym shown.version))
    ∙ sym shown.classes

-- an edit was published and marked
pub record IsPublished (edit : meaning.Edit) (old new : Passed Entry) (marks more : List ℕ) (v : ℕ) : Type 0 where
  pub before : IsOwn old
  pub after : IsOwn new
  pub made : MakesOne (Publish edit) old new
  pub version : v ≡ length (journal new.seen)
  pub marked : more ≡ marks ++ v ∷ []

pub published_adds : (edit : meaning.Edit) (old new : Passed Entry) (marks more : List ℕ) (v : ℕ) → IsPublished edit old new marks more v
    → Adds (record { pass = old; marks = marks }) (record { pass = new; marks = more }) (Ok (Edit edit))
unfolding Makes
published_adds edit old new marks more v published =
    let made = made_one (Publish edit) old new published.before published.after published.made in
    record {
      mark = v;
      entries = numbered_entry (Publish edit) old new ∷ [];
      made = made;
      makes = (refl, published.version, tt);
      newer = omega (arith, published.version, length-journal_later old.seen new.seen made.begins);
      marks = published.marked;
    }

-- the version that was published, and the one before it
pub version_published : (b : List ℕ) (edit : meaning.Edit) (old new : Passed Entry) (marks more : List ℕ) (v : ℕ) → IsPublished edit old new marks more v
    → (version b (journal new.seen) v ≡ meaning.classes b (journal new.seen)) × (version b (journal new.seen) (v - 1) ≡ meaning.classes b (take (length (journal new.seen) - 1) (journal new.seen)))
unfolding version
version_published b edit old new marks more v published =
    let edits = journal new.seen in (
      ap (λ (l : List meaning.Edit). meaning.classes b l) (take_all v edits (omega (arith, published.version))),
      ap (λ (n : ℕ). meaning.classes b (take (n - 1) edits)) published.version,
    )

-- a line was refused
pub refused_adds : (pass : Passed Entry) (marks more : List ℕ) (refusal : Refusal) → more ≡ marks ++ last_mark marks ∷ []
    → Adds (record { pass = pass; marks = marks }) (record { pass = pass; marks = more }) (Err refusal)
unfolding Makes
refused_adds pass marks more refusal marked = record {
  mark = last_mark marks;
  entries = [];
  made = made_nothing pass;
  makes = (refl, tt);
  newer = tt;
  marks = marked;
}
