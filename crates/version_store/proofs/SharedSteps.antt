-- What a step of the store in a turn says of the pass, once the turn is given back.
use Rattle.std.proofs.Common.{◌≡◌, ℕ, ◌-◌, true, List, [], ◌∷◌, ◌++◌, length, take, Result, Ok, Err, OnOk, OnErr, IfOk, append_assoc, refl, sym, ap, subst, ◌∙◌, arith}
use Rattle.std.specs.Result.{is_ok}
use Rattle.std.proofs.lemmas.List.{take_at, length_push}
use mathlib.Core.List.{IsPrefix}
use Rattle.turn_gate.specs.Meaning.{Passed}
use Rattle.turn_gate.proofs.Beginnings.{prefix_trans, prefix_whole}
use Rattle.view_meaning.specs.Classes as meaning
use Rattle.version_store.specs.declared.history.What.TheVariants.{Publish, Pin}
use Rattle.version_store.specs.declared.history.Entry.{Entry}
use Rattle.version_store.specs.declared.ahead.Ahead.{Ahead}
use Rattle.version_store.specs.Histories.{journal}
use Rattle.version_store.specs.Store.{Stored, Pinned, newest, newest_pinned, with_entry}
use Rattle.version_store.specs.Sharing.{changed_by_last, IsAhead, MakesEntry, MakesNone}
use Rattle.version_store.specs.Versioned.{Gains, entry_by}
use Rattle.version_store.proofs.HistoryLaws.{journal-append, journal-publish, journal-pin}

-- what a value gained in a turn that had noted its entries is one entry by this caller
pub gains_noted : {E : Type 0} (maker : E → ℕ) (history : List E → List Entry) (entry : E) (done : Entry) (old new noted : List E) (caller : ℕ)
    → Gains maker history entry done old new → noted ≡ old → done.who ≡ caller → (e : E) × (new ≡ noted ++ e ∷ []) × (maker e ≡ caller)
gains_noted {E = E} maker history entry done old new noted caller gains same by =
    (entry, gains.added ∙ ap (λ (h : List E). h ++ entry ∷ []) (sym same), gains.caller ∙ by)

-- and where the entry goes by what a call answered
pub answer_noted : {E T F : Type 0} (result : Result T F) (maker : E → ℕ) (history : List E → List Entry) (entry : T → E) (done : Entry) (old new noted : List E) (caller : ℕ)
    → is_ok result ≡ true → IfOk result (λ made. Gains maker history (entry made) done old new) → noted ≡ old → done.who ≡ caller → (e : E) × (new ≡ noted ++ e ∷ []) × (maker e ≡ caller)
answer_noted (Ok made) maker history entry done old new noted caller ok gains same by = gains_noted maker history (entry made) done old new noted caller gains same by
answer_noted (Err refusal) maker history entry done old new noted caller ok gains same by = absurd (cc ok)

-- a pin of the version that was newest in a turn, which its pass has then seen
pub pin_shown : {E F : Type 0} (result : Result Pinned F) (maker : E → ℕ) (history : List E → List Entry) (entry : E) (old new seen : List E) (who caller : ℕ) (before b : List ℕ)
    → who ≡ caller → before ≡ b → seen ≡ new → OnOk result (Gains maker history entry (entry_by who Pin) old new)
    → IfOk result (λ pin. pin ≡ newest_pinned who before (journal (history old)))
    → IfOk result (λ pin. pin ≡ newest_pinned caller b (journal (history seen)))
pin_shown {E = E} (Ok pin) maker history entry old new seen who caller before b by of shown gains is =
    let same : journal (history seen) ≡ journal (history old) = ap (λ (h : List E). journal (history h)) shown ∙ ap journal gains.told ∙ journal-pin (history old) who in
    rw (same, sym by, sym of) is
pin_shown (Err refusal) maker history entry old new seen who caller before b by of shown gains is = tt

-- what happened by a beginning of some entries begins what happened by all
pub history_begins : {E : Type 0} (history : List E → List Entry) → ((h more : List E) → history (h ++ more) ≡ history h ++ history more)
    → (h later : List E) → IsPrefix h later → IsPrefix (history h) (history later)
history_begins history history_append h later begins = (history begins.0, sym (history_append h begins.0) ∙ ap history begins.1)

-- how many classes an edit changed, of the version before the one that it made
pub count_shown : (old new : Stored) (who count : ℕ) (edit : meaning.Edit) → new ≡ with_entry old who (Publish edit)
    → count ≡ meaning.changed (newest old) (newest new) → count ≡ changed_by_last old.bytes (journal new.history)
count_shown old new who count edit is changed =
    let bytes : new.bytes ≡ old.bytes = ap (λ (s : Stored). s.bytes) is in
    let all : journal new.history ≡ journal old.history ++ edit ∷ [] = ap (λ (s : Stored). journal s.history) is ∙ journal-publish old.history who edit in
    let before : take (length (journal new.history) - 1) (journal new.history) ≡ journal old.history =
    ap (λ (l : List meaning.Edit). take (length (journal new.history) - 1) l) all
    ∙ take_at (journal old.history) (edit ∷ []) (length (journal new.history) - 1) (omega (arith, ap length all, length_push (journal old.history) edit)) in
    changed
    ∙ ap (λ (l : List ℕ). meaning.changed (newest old) (meaning.classes l (journal new.history))) bytes
    ∙ sym (rw before refl)

-- the classes of the newest version once an edit was published
pub newest-publish : (old new : Stored) (who : ℕ) (edit : meaning.Edit) → new ≡ with_entry old who (Publish edit) → newest new ≡ meaning.classes old.bytes (journal old.history ++ edit ∷ [])
newest-publish old new who edit is = ap newest is ∙ ap (meaning.classes old.bytes) (journal-publish old.history who edit)

-- what was worked out of a version that a longer history has as its newest one
pub IsAhead-later : (b : List ℕ) (h later : List Entry) (edit : meaning.Edit) (ahead : Ahead) → IsPrefix h later → IsAhead b (journal h) edit ahead
    → length (journal later) ≡ ahead.from → IsAhead b (journal later) edit ahead
IsAhead-later b h later edit ahead begins is newest_is =
    let all : journal later ≡ journal h ++ journal begins.0 = ap journal (sym begins.1) ∙ journal-append h begins.0 in
    let same : journal h ≡ journal later =
    prefix_whole (journal h) (journal later) (journal begins.0, sym all) (omega (arith, newest_is, is.from)) in
    subst (λ (edits : List meaning.Edit). IsAhead b edits edit ahead) same is

-- what holds where a call was not refused
pub on_ok : {T E : Type 0} (result : Result T E) (P : Type 0) → is_ok result ≡ true → OnOk result P → P
on_ok (Ok value) P done holds = holds
on_ok (Err refusal) P done holds = absurd (cc done)

-- a call that made an entry after one that made none
pub made_after : {E T F : Type 0} (result : Result T F) (entry : ℕ → T → E) (old mid new : Passed E) → MakesNone old mid
    → IfOk result (λ made. MakesEntry (entry mid.who made) mid new) → IfOk result (λ made. MakesEntry (entry old.who made) old new)
made_after {E = E} (Ok made) entry old mid new none made_it =
    let between = none.seen.0 in
    let who : mid.who ≡ old.who = ap (λ (p : Passed E). p.who) none.pass in
    record {
      others = between ++ made_it.others;
      seen = made_it.seen
          ∙ ap (λ (h : List E). (h ++ made_it.others) ++ entry mid.who made ∷ []) (sym none.seen.1)
          ∙ ap (λ (h : List E). h ++ entry mid.who made ∷ []) (append_assoc old.seen between made_it.others)
          ∙ ap (λ (n : ℕ). (old.seen ++ (between ++ made_it.others)) ++ entry n made ∷ []) who;
      pass = made_it.pass ∙ ap (λ (p : Passed E). record p { seen = new.seen; mine = p.mine ++ entry p.who made ∷ [] }) none.pass;
    }
made_after (Err refusal) entry old mid new none made_it = tt

-- and one that made none either
pub none_after : {E T F : Type 0} (result : Result T F) (old mid new : Passed E) → MakesNone old mid → OnErr result (MakesNone mid new) → OnErr result (MakesNone old new)
none_after (Ok made) old mid new none none_too = tt
none_after {E = E} (Err refusal) old mid new none none_too =
    record {
      seen = prefix_trans old.seen mid.seen new.seen none.seen none_too.seen;
      pass = none_too.pass ∙ ap (λ (p : Passed E). record p { seen = new.seen }) none.pass;
    }
