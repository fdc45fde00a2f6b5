-- Replies under the newest version of a store.
use Rattle.std.proofs.Common.{◌≡◌, ℕ, ◌-◌, List, [], ◌∷◌, ◌++◌, length, Ok, Err, refl, sym, ap, subst, ◌∙◌, arith}
use Rattle.std.specs.Prelude.{codes, Result, OnOk}
use Rattle.std.proofs.lemmas.Bool.{eq-eqb}
use Rattle.std.proofs.lemmas.List.{append-nil, take_all, take_at, length_push}
use Rattle.sessions.specs.Session.{Item, version, head, with_length, reply}
use Rattle.view_lines.specs.declared.command.Command.TheVariants as command
use Rattle.view_meaning.specs.Classes as meaning
use Rattle.view_meaning.specs.Classes.{changed, classes, passing}
use Rattle.view_meaning.specs.Picture.{View, picture}
use Rattle.version_store.specs.declared.history.What.TheVariants as what
use Rattle.version_store.specs.Histories.{journal, IsLegal, HasPinned}
use Rattle.version_store.specs.Store.{Stored, newest, with_entry}
use Rattle.version_store.proofs.HistoryLaws.{once, journal-publish, journal-pin, journal-unpin, pins-pin, unpins-pin}
use Rattle.version_store.proofs.PinsOut.{legal-given}
use Rattle.view_commands.specs.Steps.{Answers}
use Rattle.view_commands.specs.Trial.{edits_in}

-- what follows from what holds where a result is Ok holds there too
pub on_ok-then : {T E : Type 0} (result : Result T E) (P Q : Type 0) → (P → Q) → OnOk result P → OnOk result Q
on_ok-then (Ok done) P Q then holds = then holds
on_ok-then (Err fault) P Q then holds = tt

-- the classes after all edits, and after all but the last
version-all : (b : List ℕ) (edits : List meaning.Edit) → version b edits (length edits) ≡ classes b edits
unfolding version
version-all b edits = ap (λ (l : List meaning.Edit). classes b l) (take_all (length edits) edits (omega arith))

version-but_last : (b : List ℕ) (edits : List meaning.Edit) (edit : meaning.Edit) → version b (edits ++ edit ∷ []) (length (edits ++ edit ∷ []) - 1) ≡ classes b edits
unfolding version
version-but_last b edits edit =
    ap (λ (l : List meaning.Edit). classes b l) (take_at edits (edit ∷ []) (length (edits ++ edit ∷ []) - 1) (omega (arith, length_push edits edit)))

-- the newest version, once pinned, may be given back
pub HasPinned-newest : (old new : Stored) (by v : ℕ) → new ≡ with_entry old by what.Pin → v ≡ length (journal old.history) → IsLegal old.history → HasPinned new.history by v
HasPinned-newest old new by v pinned is legal =
    let h = old.history in
    let one : once by (length (journal h)) by v ≡ 1 = rw (eq-eqb by by refl, eq-eqb (length (journal h)) v (sym is)) refl in
    let given = legal-given h by v legal in
    let after : HasPinned (with_entry old by what.Pin).history by v = omega (arith, one, given, pins-pin by v by h, unpins-pin by v by h) in
    subst (λ (s : Stored). HasPinned s.history by v) (sym pinned) after

-- a reply under the newest version, which was pinned and given back
pub answers-shown : (old mid new : Stored) (by v : ℕ) (item : Item) (before after : List ℕ) → mid ≡ with_entry old by what.Pin → new ≡ with_entry mid by (what.Unpin v) → IsLegal new.history
    → edits_in item ≡ [] → after ≡ before ++ reply old.bytes (journal old.history) item (length (journal old.history)) → Answers old new item before after
answers-shown old mid new by v item before after pinned unpinned legal none replied =
    let bytes : new.bytes ≡ old.bytes = ap (λ (s : Stored). s.bytes) unpinned ∙ ap (λ (s : Stored). s.bytes) pinned in
    let same : journal new.history ≡ journal old.history =
    ap (λ (s : Stored). journal s.history) unpinned ∙ journal-unpin mid.history by v ∙ ap (λ (s : Stored). journal s.history) pinned ∙ journal-pin old.history by in
    record {
      bytes = bytes;
      edits = same ∙ sym (append-nil (journal old.history)) ∙ ap (λ (l : List meaning.Edit). journal old.history ++ l) (sym none);
      legal = legal;
      replied = replied
          ∙ ap (λ (b : List ℕ). before ++ reply b (journal old.history) item (length (journal old.history))) (sym bytes)
          ∙ ap (λ (l : List meaning.Edit). before ++ reply new.bytes l item (length l)) (sym same);
    }

-- a view's reply
pub reply-view : (s : Stored) (view : View) (v : ℕ) (b cs before after : List ℕ) → b ≡ s.bytes → v ≡ length (journal s.history) → cs ≡ newest s
    → after ≡ before ++ with_length (codes "PICTURE") v (picture b cs view) → after ≡ before ++ reply s.bytes (journal s.history) (Ok (command.View view)) (length (journal s.history))
unfolding reply
reply-view s view v b cs before after bytes is shown appended =
    let edits = journal s.history in
    appended
    ∙ ap (λ (l : List ℕ). before ++ with_length (codes "PICTURE") v (picture l cs view)) bytes
    ∙ ap (λ (n : ℕ). before ++ with_length (codes "PICTURE") n (picture s.bytes cs view)) is
    ∙ ap (λ (l : List ℕ). before ++ with_length (codes "PICTURE") (length edits) (picture s.bytes l view)) (shown ∙ sym (version-all s.bytes edits))

-- a count's
pub reply-count : (s : Stored) (filter : meaning.Filter) (v : ℕ) (b cs before after : List ℕ) → b ≡ s.bytes → v ≡ length (journal s.history) → cs ≡ newest s
    → after ≡ before ++ head (codes "COUNT") v (passing b cs filter) → after ≡ before ++ reply s.bytes (journal s.history) (Ok (command.Count filter)) (length (journal s.history))
unfolding reply
reply-count s filter v b cs before after bytes is shown appended =
    let edits = journal s.history in
    appended
    ∙ ap (λ (l : List ℕ). before ++ head (codes "COUNT") v (passing l cs filter)) bytes
    ∙ ap (λ (n : ℕ). before ++ head (codes "COUNT") n (passing s.bytes cs filter)) is
    ∙ ap (λ (l : List ℕ). before ++ head (codes "COUNT") (length edits) (passing s.bytes l filter)) (shown ∙ sym (version-all s.bytes edits))

-- an edit's, which published it
pub answers-edit : (old new : Stored) (by v n : ℕ) (edit : meaning.Edit) (before after : List ℕ) → new ≡ with_entry old by (what.Publish edit) → IsLegal new.history
    → v ≡ length (journal new.history) → n ≡ changed (newest old) (newest new) → after ≡ before ++ head (codes "EDITED") v n → Answers old new (Ok (command.Edit edit)) before after
unfolding reply
answers-edit old new by v n edit before after published legal is counted appended =
    let bytes : new.bytes ≡ old.bytes = ap (λ (s : Stored). s.bytes) published in
    let edits : journal new.history ≡ journal old.history ++ edit ∷ [] = ap (λ (s : Stored). journal s.history) published ∙ journal-publish old.history by edit in
    let earlier : newest old ≡ version new.bytes (journal new.history) (length (journal new.history) - 1) =
    sym (version-but_last old.bytes (journal old.history) edit)
    ∙ ap (λ (l : List meaning.Edit). version old.bytes l (length l - 1)) (sym edits)
    ∙ ap (λ (b : List ℕ). version b (journal new.history) (length (journal new.history) - 1)) (sym bytes) in
    let later : newest new ≡ version new.bytes (journal new.history) (length (journal new.history)) = sym (version-all new.bytes (journal new.history)) in
    record {
      bytes = bytes;
      edits = edits;
      legal = legal;
      replied = appended
          ∙ ap (λ (m : ℕ). before ++ head (codes "EDITED") m n) is
          ∙ ap (λ (m : ℕ). before ++ head (codes "EDITED") (length (journal new.history)) m) (counted ∙ ap (λ (cs : List ℕ). changed cs (newest new)) earlier ∙ ap (λ (cs : List ℕ). changed (version new.bytes (journal new.history) (length (journal new.history) - 1)) cs) later);
    }
