-- The replies to one more item, and what the output then has.
use Rattle.std.proofs.Common.{◌≡◌, ℕ, ◌+◌, ◌-◌, ◌≤◌, List, [], ◌∷◌, ◌++◌, length, take, drop, Option, Some, None, IfSome, true, false, inl, inr, refl, sym, ap, subst, ◌∙◌, arith, length-append, append_assoc}
use Rattle.std.proofs.lemmas.List.{append-nil, take-append-drop, take-take, take_all, take_at, length-take, length_push, get_or_push}
use Rattle.std.proofs.Math.Seq.{take-append-add}
use mathlib.Core.List.{IsPrefix}
use Rattle.turn_gate.specs.Meaning.{Passed}
use Rattle.view_ends.specs.Ends.{Gains, GainsPart}
use Rattle.view_meaning.specs.Classes as meaning
use Rattle.version_store.specs.declared.history.Entry.{Entry}
use Rattle.version_store.specs.Histories.{journal, numbered, entries_by}
use Rattle.sessions.specs.Session.{Item, reply, replies, GotMost}
use Rattle.sessions.specs.Talk.{Talk, Start, Made, Stays, Adds, HasProcessed, IsAnswering, GaveUp, AnsweredAll, last_mark, last_reply}
use Rattle.sessions.proofs.Later.{journal-later, replies-later}
use Rattle.sessions.proofs.Tales.{tale_within, tale_length, tale_more, tale_stays, tale_nothing}

pub replies-append : (b : List ℕ) (edits : List meaning.Edit) (items : List Item) (marks : List ℕ) (others : List Item) (more : List ℕ) → length items ≡ length marks
    → replies b edits (items ++ others) (marks ++ more) ≡ replies b edits items marks ++ replies b edits others more
unfolding replies
replies-append b edits [] [] others more same = refl
replies-append b edits [] (v ∷ marks) others more same = absurd (omega arith)
replies-append b edits (item ∷ items) [] others more same = absurd (omega arith)
replies-append b edits (item ∷ items) (v ∷ marks) others more same =
    ap (λ (text : List ℕ). reply b edits item v ++ text) (replies-append b edits items marks others more (omega arith))
    ∙ sym (append_assoc (reply b edits item v) (replies b edits items marks) (replies b edits others more))

pub replies-one : (b : List ℕ) (edits : List meaning.Edit) (item : Item) (v : ℕ) → replies b edits (item ∷ []) (v ∷ []) ≡ reply b edits item v
unfolding replies
replies-one b edits item v = append-nil (reply b edits item v)

pub last_mark-push : (marks : List ℕ) (mark : ℕ) → last_mark (marks ++ mark ∷ []) ≡ mark
last_mark-push marks mark = get_or_push marks mark 0 (length (marks ++ mark ∷ []) - 1) (omega (arith, length_push marks mark))

-- all but the last
abbrev but_last : {X : Type 0} → List X → List X
but_last xs = take (length xs - 1) xs

but_last-push : {X : Type 0} (xs : List X) (x : X) → but_last (xs ++ x ∷ []) ≡ xs
but_last-push xs x = take_at xs (x ∷ []) (length (xs ++ x ∷ []) - 1) (omega (arith, length_push xs x))

-- two appends in turn are one
gains_then : (start before after : Option (List ℕ)) (first then : List ℕ) → Gains start first before → Gains before then after → Gains start (first ++ then) after
gains_then None before after first then one two = tt
gains_then (Some all) before after first then one two =
    let known : Gains (Some (all ++ first)) then after = subst (λ (o : Option (List ℕ)). Gains o then after) one two in
    known ∙ ap Some (append_assoc all first then)

part_then : (start before after : Option (List ℕ)) (first then : List ℕ) → Gains start first before → GainsPart before then after
    → IfSome start (λ all. (k : ℕ) × (length first ≤ k) × (after ≡ Some (all ++ take k (first ++ then))))
part_then None before after first then one two = tt
part_then (Some all) before after first then one two =
    let known : GainsPart (Some (all ++ first)) then after = subst (λ (o : Option (List ℕ)). GainsPart o then after) one two in
    let k = known.0 in
    (length first + k, omega arith, known.2 ∙ ap Some (append_assoc all first (take k then) ∙ ap (λ (text : List ℕ). all ++ text) (sym (take-append-add first then k))))

-- the replies to all items but the last are no longer than all
replies-but_last : (b : List ℕ) (edits : List meaning.Edit) (items : List Item) (marks : List ℕ) → length items ≡ length marks
    → length (replies b edits (but_last items) (but_last marks)) ≤ length (replies b edits items marks)
replies-but_last b edits items marks same =
    let n = length items - 1 in
    let fronts : length (take n items) ≡ length (take n marks) = omega (arith, length-take n items, length-take n marks) in
    let cut : replies b edits items marks ≡ replies b edits (take n items) (take n marks) ++ replies b edits (drop n items) (drop n marks) =
    ap (λ (l : List Item). replies b edits l marks) (sym (take-append-drop n items))
    ∙ ap (λ (l : List ℕ). replies b edits (take n items ++ drop n items) l) (sym (take-append-drop n marks))
    ∙ replies-append b edits (take n items) (take n marks) (drop n items) (drop n marks) fronts in
    let there : length marks - 1 ≡ n = omega arith in
    let whole = ap length cut in
    rw there (omega (arith, whole, length-append (replies b edits (take n items) (take n marks)) (replies b edits (drop n items) (drop n marks))))

all_most : (b : List ℕ) (edits : List meaning.Edit) (items : List Item) (marks : List ℕ) (start now : Option (List ℕ)) → length items ≡ length marks
    → Gains start (replies b edits items marks) now → GotMost b edits items marks start now
all_most b edits items marks None now same got = tt
all_most b edits items marks (Some all) now same got =
    let text = replies b edits items marks in
    (length text, replies-but_last b edits items marks same, got ∙ ap (λ (l : List ℕ). Some (all ++ l)) (sym (take_all (length text) text (omega arith))))

-- a front of a list has each of its own fronts
front_before : (items line all : List Item) → (k : ℕ) × (take k all ≡ items ++ line) → (k : ℕ) × (take k all ≡ items)
front_before items line all front =
    let k = front.0 in
    let n = length items in
    let cut : take n (take k all) ≡ items = ap (λ (l : List Item). take n l) front.1 ∙ take_at items line n refl in
    let within : n ≤ k = omega (arith, ap length front.1, length-take k all, length-append items line) in
    (n, sym (take-take n k all within) ∙ cut)

-- the entries that a pass made are by the number of the one that it was at the start
made_since : (start : Start) (old new : Passed Entry) (entries : List (Entry × ℕ)) → old ≡ record start.pass { seen = old.seen; mine = old.mine } → Made old new entries
    → entries_by start.pass.who (numbered 0 new.seen) ≡ entries_by start.pass.who (numbered 0 old.seen) ++ entries
made_since start old new entries same made =
    subst (λ (who : ℕ). entries_by who (numbered 0 new.seen) ≡ entries_by who (numbered 0 old.seen) ++ entries) (ap (λ (p : Passed Entry). p.who) same) made.entries

pass_since : (start : Start) (old new : Passed Entry) (entries : List (Entry × ℕ)) → old ≡ record start.pass { seen = old.seen; mine = old.mine } → Made old new entries
    → new ≡ record start.pass { seen = new.seen; mine = new.mine }
pass_since start old new entries same made = made.pass ∙ ap (λ (p : Passed Entry). record p { seen = new.seen; mine = new.mine }) same

-- one more item was processed
pub processed_more : (start : Start) (old new : Talk) (items : List Item) (item : Item) → HasProcessed start old items → Adds old new item → HasProcessed start new (items ++ item ∷ [])
processed_more start old new items item processed added = record {
  tale =
      rw added.marks (tale_more start.pass.seen old.pass.seen new.pass.seen start.pass.who items old.marks item added.mark added.entries processed.tale
      added.made.begins (made_since start old.pass new.pass added.entries processed.pass added.made) added.makes added.newer);
  pass = pass_since start old.pass new.pass added.entries processed.pass added.made;
}

-- or none
pub processed_stays : (start : Start) (old new : Talk) (items : List Item) → HasProcessed start old items → Stays old new → HasProcessed start new items
processed_stays start old new items processed stays =
    let same = made_since start old.pass new.pass [] processed.pass stays.made ∙ append-nil (entries_by start.pass.who (numbered 0 old.pass.seen)) in
    record {
      tale = rw stays.marks (tale_stays start.pass.seen old.pass.seen new.pass.seen start.pass.who items old.marks processed.tale stays.made.begins same);
      pass = pass_since start old.pass new.pass [] processed.pass stays.made;
    }

-- the replies to what was processed do not change while the history grows
replies_since : (b : List ℕ) (start : Start) (old : Talk) (new : List Entry) (items : List Item) → HasProcessed start old items → IsPrefix old.pass.seen new
    → replies b (journal new) items old.marks ≡ replies b (journal old.pass.seen) items old.marks
replies_since b start old new items processed begins =
    let tale = processed.tale in
    replies-later b (journal old.pass.seen) (journal new) items old.marks (journal-later old.pass.seen new begins) (tale_within start.pass.seen old.pass.seen start.pass.who items old.marks tale.makes)

-- the replies after one item more, and to all but that one
replies_whole : (b : List ℕ) (start : Start) (old new : Talk) (items : List Item) (item : Item) → HasProcessed start old items → Adds old new item
    → replies b (journal new.pass.seen) (items ++ item ∷ []) new.marks ≡ replies b (journal old.pass.seen) items old.marks ++ last_reply b new item
replies_whole b start old new items item processed added =
    let edits = journal new.pass.seen in
    let tale = processed.tale in
    let last : last_mark new.marks ≡ added.mark = ap last_mark added.marks ∙ last_mark-push old.marks added.mark in
    ap (λ (l : List ℕ). replies b edits (items ++ item ∷ []) l) added.marks
    ∙ replies-append b edits items old.marks (item ∷ []) (added.mark ∷ []) (tale_length start.pass.seen old.pass.seen start.pass.who items old.marks tale)
    ∙ ap (λ (text : List ℕ). replies b edits items old.marks ++ text) (replies-one b edits item added.mark ∙ ap (λ (v : ℕ). reply b edits item v) (sym last))
    ∙ ap (λ (text : List ℕ). text ++ last_reply b new item) (replies_since b start old new.pass.seen items processed added.made.begins)

replies_front : (b : List ℕ) (start : Start) (old new : Talk) (items : List Item) (item : Item) → HasProcessed start old items → Adds old new item
    → replies b (journal new.pass.seen) (but_last (items ++ item ∷ [])) (but_last new.marks) ≡ replies b (journal old.pass.seen) items old.marks
replies_front b start old new items item processed added =
    let edits = journal new.pass.seen in
    ap (λ (l : List Item). replies b edits l (but_last new.marks)) (but_last-push items item)
    ∙ ap (λ (l : List ℕ). replies b edits items (but_last l)) added.marks
    ∙ ap (λ (l : List ℕ). replies b edits items l) (but_last-push old.marks added.mark)
    ∙ replies_since b start old new.pass.seen items processed added.made.begins

pub answering_more : (b : List ℕ) (items : List Item) (item : Item) (old new : Talk) (start : Start) (before after : Option (List ℕ))
    → IsAnswering b items old start before → Adds old new item → Gains before (last_reply b new item) after → IsAnswering b (items ++ item ∷ []) new start after
answering_more b items item old new start before after answering added gains = record {
  processed = processed_more start old new items item answering.processed added;
  got = subst (λ (text : List ℕ). Gains start.got text after) (sym (replies_whole b start old new items item answering.processed added)) (gains_then start.got before after (replies b (journal old.pass.seen) items old.marks) (last_reply b new item) answering.got gains);
}

pub gave_up_part : (b : List ℕ) (items : List Item) (item : Item) (old new : Talk) (start : Start) (before after : Option (List ℕ))
    → IsAnswering b items old start before → Adds old new item → GainsPart before (last_reply b new item) after
    → GotMost b (journal new.pass.seen) (items ++ item ∷ []) new.marks start.got after
gave_up_part b items item old new start before after answering added gains =
    let first = replies b (journal old.pass.seen) items old.marks in
    let all = items ++ item ∷ [] in
    let got = part_then start.got before after first (last_reply b new item) answering.got gains in
    subst (λ (text : List ℕ). IfSome start.got (λ start. (k : ℕ) × (length text ≤ k) × (after ≡ Some (start ++ take k (replies b (journal new.pass.seen) all new.marks))))) (sym (replies_front b start old new items item answering.processed added))
    (subst (λ (text : List ℕ). IfSome start.got (λ start. (k : ℕ) × (length first ≤ k) × (after ≡ Some (start ++ take k text)))) (sym (replies_whole b start old new items item answering.processed added)) got)

pub answering_most : (b : List ℕ) (items : List Item) (talk : Talk) (start : Start) (now : Option (List ℕ)) → IsAnswering b items talk start now
    → GotMost b (journal talk.pass.seen) items talk.marks start.got now
answering_most b items talk start now answering =
    all_most b (journal talk.pass.seen) items talk.marks start.got now (tale_length start.pass.seen talk.pass.seen start.pass.who items talk.marks answering.processed.tale) answering.got

-- nothing was done
pub answering_stays : (b : List ℕ) (items : List Item) (old new : Talk) (start : Start) (before after : Option (List ℕ))
    → IsAnswering b items old start before → Stays old new → after ≡ before → IsAnswering b items new start after
answering_stays b items old new start before after answering stays same = record {
  processed = processed_stays start old new items answering.processed stays;
  got = rw (stays.marks, replies_since b start old new.pass.seen items answering.processed stays.made.begins, same) answering.got;
}

-- a session that processed some first ones of all its items
gave_up : (b : List ℕ) (all items : List Item) (talk : Talk) (start : Start) (now : Option (List ℕ)) (k : ℕ) → take k all ≡ items
    → HasProcessed start talk items → GotMost b (journal talk.pass.seen) items talk.marks start.got now → GaveUp b all talk start now
gave_up b all items talk start now k front processed got = record {
  count = k;
  processed = rw front processed;
  got = rw front got;
}

-- a session that has processed nothing
pub answering_nothing : (b : List ℕ) (pass : Passed Entry) (got : Option (List ℕ)) → IsAnswering b [] (record { pass = pass; marks = [] }) (record { pass = pass; got = got }) got
unfolding replies
answering_nothing b pass got = record {
  processed = record { tale = tale_nothing pass.seen pass.who; pass = refl };
  got = gains_none got;
}
  where
    gains_none : (told : Option (List ℕ)) → Gains told [] told
    gains_none None = tt
    gains_none (Some all) = ap Some (sym (append-nil all))

-- the items of a line, which are one or none, were processed
pub answering_line : (b : List ℕ) (items line : List Item) (old new : Talk) (start : Start) (before after : Option (List ℕ)) → length line ≤ 1
    → IsAnswering b items old start before → AnsweredAll b old new line before after true → IsAnswering b (items ++ line) new start after
answering_line b items [] old new start before after one answering answered =
    rw (append-nil items) (answering_stays b items old new start before after answering answered.1 answered.2)
answering_line b items (item ∷ []) old new start before after one answering answered =
    let whole = answered.whole refl in
    answering_more b items item old new start before after answering whole.0 whole.1
answering_line b items (item ∷ other ∷ others) old new start before after one answering answered = absurd (omega arith)

-- the session gave up at a line
pub gave_up-line : (b : List ℕ) (all items line : List Item) (old new : Talk) (start : Start) (before after : Option (List ℕ)) → length line ≤ 1
    → IsAnswering b items old start before → AnsweredAll b old new line before after false → (k : ℕ) × (take k all ≡ items ++ line) → GaveUp b all new start after
gave_up-line b all items [] old new start before after one answering answered front = absurd (cc (answered.0))
gave_up-line b all items (item ∷ []) old new start before after one answering answered front =
    elim (answered.part refl) [
      | inl none ↦
          let still = answering_stays b items old new start before after answering none.0 none.1 in
          let some = front_before items (item ∷ []) all front in
          gave_up b all items new start after some.0 some.1 still.processed (answering_most b items new start after still)
      | inr part ↦
          gave_up b all (items ++ item ∷ []) new start after front.0 front.1 (processed_more start old new items item answering.processed part.0)
          (gave_up_part b items item old new start before after answering part.0 part.1)
    ]
gave_up-line b all items (item ∷ other ∷ others) old new start before after one answering answered front = absurd (omega arith)
