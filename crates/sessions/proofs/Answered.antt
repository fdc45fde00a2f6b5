-- What a session answered, from what its output got.
use Rattle.std.proofs.Common.{◌≡◌, ◌≢◌, ℕ, ◌+◌, ◌-◌, ◌*◌, ◌<◌, ◌≤◌, Bool, true, false, is_ok, is_none, List, [], ◌∷◌, ◌++◌, length, drop, Option, Some, None, Result, Ok, Err, OnOk, OnErr, IfSome, IfNone, refl, sym, ap, ◌∙◌, subst, arith, inl, inr, decimal}
use Rattle.std.specs.Prelude.{◌⊎◌, codes, slice_range}
use Rattle.std.specs.Result.{IsErrAnd}
use Rattle.std.proofs.lemmas.Bool.{true≢false, le-leb, ne_eqb}
use Rattle.std.proofs.lemmas.List.{length-append, append-nil}
use Rattle.turn_gate.specs.Meaning.{Passed}
use Rattle.view_base.specs.Listed.{Listed}
use Rattle.view_base.specs.Text.{words}
use Rattle.view_ends.specs.Ends.{Gains, GainsPart}
use Rattle.view_ends.specs.declared.fault.EndFault.{EndFault}
use Rattle.view_meaning.specs.Classes as meaning
use Rattle.view_meaning.specs.Picture.{View as PictureView, picture, ppm_header}
use Rattle.view_meaning.specs.Classes.{changed, passing, saved}
use Rattle.view_lines.specs.Command.{command_of, refusal_code}
use Rattle.view_lines.specs.declared.command.Command.{Command}
use Rattle.view_lines.specs.declared.command.Command.TheVariants.{View, Edit, Count, Save}
use Rattle.view_lines.specs.declared.refusal.Refusal.{Refusal}
use Rattle.version_store.specs.declared.history.Entry.{Entry}
use Rattle.version_store.specs.Histories.{journal}
use Rattle.version_store.specs.Sharing.{changed_by_last}
use Rattle.sessions.specs.declared.pending.TheConstants.{LINE}
use Rattle.sessions.specs.Session.{Item, without_cr, items_of, version, head, with_length, reply}
use Rattle.sessions.specs.Talk.{Talk, Stays, Adds, Replied, Answered, AnsweredAll, last_mark, last_reply}
use Rattle.sessions.proofs.Calls.{IsShown, IsPublished, makes_view, makes_count, makes_save, shown_adds, version_shown, published_adds, version_published, refused_adds}
use Rattle.sessions.proofs.Replying.{last_mark-push}

-- a refusal is no answer
pub not_done : (Q : EndFault → Type 0) (result : Result (Unit {0}) EndFault) → IsErrAnd result Q → is_ok result ≡ false
not_done Q (Ok done) failed = absurd failed
not_done Q (Err fault) failed = refl

-- nothing was answered
pub answered_none : (Q : EndFault → Type 0) (b : List ℕ) (old new : Talk) (item : Item) (before after : Option (List ℕ)) (result : Result (Unit {0}) EndFault)
    → Stays old new → after ≡ before → IsErrAnd result Q → Answered b old new item before after (is_ok result)
answered_none Q b old new item before after (Ok done) stays same failed = absurd failed
answered_none Q b old new item before after (Err fault) stays same failed = record {
  whole = λ all. absurd (true≢false (sym all));
  part = λ no. inl (stays, same);
}

-- an item was answered as its reply was given
pub answered_by : (b : List ℕ) (old new : Talk) (item : Item) (before after : Option (List ℕ)) (text : List ℕ) (result : Result (Unit {0}) EndFault)
    → Adds old new item → text ≡ last_reply b new item → OnOk result (Gains before text after) → OnErr result (GainsPart before text after) → Answered b old new item before after (is_ok result)
answered_by b old new item before after text (Ok done) added is given part = record {
  whole = λ all. (added, subst (λ (l : List ℕ). Gains before l after) is given);
  part = λ no. absurd (true≢false no);
}
answered_by b old new item before after text (Err fault) added is given part = record {
  whole = λ all. absurd (true≢false (sym all));
  part = λ no. inr (added, subst (λ (l : List ℕ). GainsPart before l after) is part);
}

-- a reply was made
pub replied_made : {E : Type 0} (b : List ℕ) (old new : Talk) (item : Item) (text : Listed ℕ) → Adds old new item → text.items ≡ last_reply b new item → Replied {E = E} b old new item (Ok text)
replied_made b old new item text added is = record { made = (added, is); none = tt }

-- or there was no memory for it
pub replied_none : {E : Type 0} (Q : E → Type 0) (b : List ℕ) (old new : Talk) (item : Item) (result : Result (Listed ℕ) E) → Stays old new ⊎ Adds old new item → IsErrAnd result Q → Replied b old new item result
replied_none Q b old new item (Ok text) why failed = absurd failed
replied_none Q b old new item (Err refusal) why failed = record { made = tt; none = why }

-- the length that the head line of a view tells
pub picture-size : (w h width height size : ℕ) (shown : List ℕ) → w ≡ width → h ≡ height → size ≡ length (ppm_header w h) + 3 * (w * h) → length shown ≡ length (ppm_header width height) + 3 * (width * height) → size ≡ length shown
picture-size w h width height size shown wide high told is =
    told ∙ ap (λ (n : ℕ). length (ppm_header n h) + 3 * (n * h)) wide ∙ ap (λ (n : ℕ). length (ppm_header width n) + 3 * (width * n)) high ∙ sym is

-- a line has its end at least
some_end : (front : List ℕ) → 0 < length (front ++ codes "\n")
some_end front = let one : length (codes "\n") ≡ 1 = refl in omega (arith, one, length-append front (codes "\n"))

some_head : (word : List ℕ) (v n : ℕ) → 0 < length (head word v n)
unfolding head
some_head word v n = some_end (word ++ codes " " ++ decimal v ++ codes " " ++ decimal n)

some_long : (word : List ℕ) (v : ℕ) (bytes : List ℕ) → 0 < length (with_length word v bytes)
some_long word v bytes = omega (arith, length-append (head word v (length bytes)) bytes, some_head word v (length bytes))

-- the mark of the last item
marked : (marks more : List ℕ) (v : ℕ) → more ≡ marks ++ v ∷ [] → last_mark more ≡ v
marked marks more v is = ap last_mark is ∙ last_mark-push marks v

-- what was shown of a version
module _ (b : List ℕ) (old mid new : Passed Entry) (marks more : List ℕ) (v : ℕ) (cs : List ℕ) (shown : IsShown b old mid new marks more v cs) where
  abbrev before_it : Talk
  before_it = record { pass = old; marks = marks }

  abbrev after_it : Talk
  after_it = record { pass = new; marks = more }

  reply_shown : (item : Item) → last_reply b after_it item ≡ reply b (journal new.seen) item v
  reply_shown item = ap (λ (n : ℕ). reply b (journal new.seen) item n) (marked marks more v shown.marked)

  pub replied_view : {E : Type 0} (view : PictureView) (text : Listed ℕ) → text.items ≡ with_length (codes "PICTURE") v (picture b cs view) → Replied {E = E} b before_it after_it (Ok (View view)) (Ok text)
  unfolding reply
  replied_view view text is =
      let said = reply_shown (Ok (View view)) ∙ ap (λ (l : List ℕ). with_length (codes "PICTURE") v (picture b l view)) (version_shown b old mid new marks more v cs shown) in
      replied_made b before_it after_it (Ok (View view)) text (shown_adds b old mid new marks more v cs (Ok (View view)) shown (makes_view view)) (is ∙ sym said)

  -- a view for whose picture there was no memory
  pub replied_view-none : {E : Type 0} (Q : E → Type 0) (view : PictureView) (result : Result (Listed ℕ) E) → IsErrAnd result Q → Replied b before_it after_it (Ok (View view)) result
  replied_view-none Q view result failed =
      replied_none Q b before_it after_it (Ok (View view)) result (inr (shown_adds b old mid new marks more v cs (Ok (View view)) shown (makes_view view))) failed

  pub replied_count : {E : Type 0} (filter : meaning.Filter) (text : Listed ℕ) → text.items ≡ head (codes "COUNT") v (passing b cs filter) → Replied {E = E} b before_it after_it (Ok (Count filter)) (Ok text)
  unfolding reply
  replied_count filter text is =
      let said = reply_shown (Ok (Count filter)) ∙ ap (λ (l : List ℕ). head (codes "COUNT") v (passing b l filter)) (version_shown b old mid new marks more v cs shown) in
      replied_made b before_it after_it (Ok (Count filter)) text (shown_adds b old mid new marks more v cs (Ok (Count filter)) shown (makes_count filter)) (is ∙ sym said)

  pub answered_save : (text : List ℕ) (before after : Option (List ℕ)) (result : Result (Unit {0}) EndFault)
      → text ≡ with_length (codes "FILE") v (saved b cs) → OnOk result (Gains before text after) → OnErr result (GainsPart before text after)
      → Answered b before_it after_it (Ok Save) before after (is_ok result)
  unfolding reply
  answered_save text before after result is given part =
      let said = reply_shown (Ok Save) ∙ ap (λ (l : List ℕ). with_length (codes "FILE") v (saved b l)) (version_shown b old mid new marks more v cs shown) in
      answered_by b before_it after_it (Ok Save) before after text result (shown_adds b old mid new marks more v cs (Ok Save) shown makes_save) (is ∙ sym said) given part

pub replied_edit : {E : Type 0} (b : List ℕ) (edit : meaning.Edit) (old new : Passed Entry) (marks more : List ℕ) (v count : ℕ) (text : Listed ℕ)
    → IsPublished edit old new marks more v → count ≡ changed_by_last b (journal new.seen) → text.items ≡ head (codes "EDITED") v count
    → Replied {E = E} b (record { pass = old; marks = marks }) (record { pass = new; marks = more }) (Ok (Edit edit)) (Ok text)
unfolding reply
replied_edit b edit old new marks more v count text published counted is =
    let edits = journal new.seen in
    let versions = version_published b edit old new marks more v published in
    let said : last_reply b (record { pass = new; marks = more }) (Ok (Edit edit)) ≡ head (codes "EDITED") v count =
    ap (λ (n : ℕ). reply b edits (Ok (Edit edit)) n) (marked marks more v published.marked)
    ∙ ap (λ (l : List ℕ). head (codes "EDITED") v (changed (version b edits (v - 1)) l)) versions.0
    ∙ ap (λ (l : List ℕ). head (codes "EDITED") v (changed l (meaning.classes b edits))) versions.1
    ∙ ap (λ (n : ℕ). head (codes "EDITED") v n) (sym counted) in
    replied_made b (record { pass = old; marks = marks }) (record { pass = new; marks = more }) (Ok (Edit edit)) text (published_adds edit old new marks more v published) (is ∙ sym said)

pub replied_refused : {E : Type 0} (b : List ℕ) (pass : Passed Entry) (marks more : List ℕ) (refusal : Refusal) (text : Listed ℕ)
    → more ≡ marks ++ last_mark marks ∷ [] → text.items ≡ codes "REFUSED " ++ decimal (refusal_code refusal) ++ codes "\n"
    → Replied {E = E} b (record { pass = pass; marks = marks }) (record { pass = pass; marks = more }) (Err refusal) (Ok text)
unfolding reply
replied_refused b pass marks more refusal text marked is =
    replied_made b (record { pass = pass; marks = marks }) (record { pass = pass; marks = more }) (Err refusal) text (refused_adds pass marks more refusal marked) is

-- a reply has its end at least
some_reply : (b : List ℕ) (edits : List meaning.Edit) (item : Item) (v : ℕ) → 0 < length (reply b edits item v)
unfolding reply
some_reply b edits (Ok (View view)) v = some_long (codes "PICTURE") v (picture b (version b edits v) view)
some_reply b edits (Ok (Edit edit)) v = some_head (codes "EDITED") v (changed (version b edits (v - 1)) (version b edits v))
some_reply b edits (Ok (Count filter)) v = some_head (codes "COUNT") v (passing b (version b edits v) filter)
some_reply b edits (Ok Save) v = some_long (codes "FILE") v (saved b (version b edits v))
some_reply b edits (Err refusal) v = some_end (codes "REFUSED " ++ decimal (refusal_code refusal))

-- a reply that was made was given
pub answered_given : {E : Type 0} (b : List ℕ) (old new : Talk) (item : Item) (before after : Option (List ℕ)) (reply : Result (Listed ℕ) E) (made : Listed ℕ) (text : List ℕ) (result : Result (Unit {0}) EndFault)
    → Replied b old new item reply → reply ≡ Ok made → text ≡ made.items → OnOk result (Gains before text after) → OnErr result (GainsPart before text after) → Answered b old new item before after (is_ok result)
answered_given b old new item before after reply made text result replied is same given part =
    let whole = (rw is at replied).made in
    answered_by b old new item before after text result whole.0 (same ∙ whole.1) given part

-- or there was none, and nothing was given
pub answered_nothing : {E : Type 0} (b : List ℕ) (old new : Talk) (item : Item) (got : Option (List ℕ)) (reply : Result (Listed ℕ) E) (refusal : E)
    → Replied b old new item reply → reply ≡ Err refusal → Answered b old new item got got false
answered_nothing b old new item got reply refusal replied is = record {
  whole = λ all. absurd (true≢false (sym all));
  part = λ no. nothing (rw is at replied).none;
}
  where
    none : (got : Option (List ℕ)) → GainsPart got (last_reply b new item) got
    none None = tt
    none (Some all) = (0, some_reply b (journal new.pass.seen) item (last_mark new.marks), ap Some (sym (append-nil all)))

    nothing : Stays old new ⊎ Adds old new item → (Stays old new × (got ≡ got)) ⊎ (Adds old new item × GainsPart got (last_reply b new item) got)
    nothing (inl stays) = inl (stays, refl)
    nothing (inr added) = inr (added, none got)

-- what was answered of a command, by what it is
pub answered_command : (b : List ℕ) (old new : Talk) (command this : Command) (before after : Option (List ℕ)) (done : Bool) → command ≡ this → Answered b old new (Ok this) before after done → Answered b old new (Ok command) before after done
answered_command b old new command this before after done is answered = rw is answered

-- a line of which no word was found
pub items-wordless : (f : ℕ) (line cut : List ℕ) (found : Option (ℕ × ℕ)) → length line ≤ LINE → cut ≡ without_cr line → is_none found ≡ true → IfNone found (words (drop 0 cut) ≡ []) → items_of f line ≡ []
unfolding items_of
items-wordless f line cut (Some place) few same none wordless = absurd (true≢false (sym none))
items-wordless f line cut None few same none wordless =
    let no : words (without_cr line) ≡ [] = ap words (sym same) ∙ wordless in
    rw (le-leb (length line) LINE few, no) refl

-- a line of which a word was found is one item
pub items-one : (f format : ℕ) (line cut : List ℕ) (found : Option (ℕ × ℕ)) (read item : Item) → length line ≤ LINE → cut ≡ without_cr line → is_none found ≡ false
    → IfSome found (λ p. words (drop 0 cut) ≡ slice_range cut p.0 p.1 ∷ words (drop p.1 cut)) → format ≡ f → read ≡ command_of (words cut) format → read ≡ item → items_of f line ≡ item ∷ []
unfolding items_of
items-one f format line cut None read item few same some wordy fits is answer = absurd (true≢false some)
items-one f format line cut (Some p) read item few same some wordy fits is answer =
    let words_are : words (without_cr line) ≡ slice_range cut p.0 p.1 ∷ words (drop p.1 cut) = ap words (sym same) ∙ wordy in
    let command : command_of (words (without_cr line)) f ≡ item = ap (λ (l : List ℕ). command_of (words l) f) (sym same) ∙ ap (λ (n : ℕ). command_of (words cut) n) (sym fits) ∙ sym is ∙ answer in
    let some_words : length (words (without_cr line)) ≢ 0 = let n = ap length words_are in omega (arith, n) in
    rw (le-leb (length line) LINE few, ne_eqb (length (words (without_cr line))) 0 some_words, command) refl

-- what was answered of the items of a line by another name
pub answered_items : (b : List ℕ) (old new : Talk) (items same : List Item) (before after : Option (List ℕ)) (done : Bool) → same ≡ items → AnsweredAll b old new items before after done → AnsweredAll b old new same before after done
answered_items b old new items same before after done is answered = rw is answered
