-- What a session processed, item by item.
use Rattle.std.proofs.Common.{◌≡◌, ℕ, zero, suc, ◌+◌, ◌-◌, ◌<◌, ◌≤◌, Bool, cond, eqb, List, [], ◌∷◌, ◌++◌, length, get_or, Some, IfOk, Ok, Err, refl, sym, ap, subst, inl, inr, ◌∙◌, arith}
use Rattle.std.specs.List.{slice_get}
use Rattle.std.proofs.lemmas.Bool.{cases_lt}
use Rattle.std.proofs.lemmas.List.{length_push, get_or_append_left, get_or_push, get_or_default}
use Rattle.std.proofs.lemmas.List.Elements.{All-head, All-tail}
use Rattle.std.proofs.lemmas.List.Sums.{sum_by-append, sum_by-cons}
use Rattle.std.proofs.lemmas.Option.{slice_get-get_or, slice_get_within}
use mathlib.Core.List.{IsPrefix}
use Rattle.turn_gate.proofs.Beginnings.{prefix_self, prefix_trans}
use Rattle.view_meaning.specs.Classes as meaning
use Rattle.view_lines.specs.declared.command.Command.{Command}
use Rattle.view_lines.specs.declared.command.Command.TheVariants.{View, Edit, Count, Save}
use Rattle.version_store.specs.declared.history.What.{What}
use Rattle.version_store.specs.declared.history.What.TheVariants.{Publish, Pin, Unpin}
use Rattle.version_store.specs.declared.history.Entry.{Entry}
use Rattle.version_store.specs.Histories.{journal, numbered, entries_by, is_pin, is_unpin, how_many}
use Rattle.sessions.specs.Session.{Item, Makes}
use Rattle.sessions.specs.Talk.{last_mark, IsTale}
use Rattle.sessions.specs.Worlds.{HasGivenBack}
use Rattle.sessions.proofs.News.{news, AreUpTo, drop-numbered, entries_by-news, news-more, news-same, news-up_to, length-journal_later}

-- the last of some marks, or the mark before them
abbrev pub last_from : ℕ → List ℕ → ℕ
last_from before [] = before
last_from before (mark ∷ marks) = last_from mark marks

last_from-last : (before : ℕ) (marks : List ℕ) → last_from before marks ≡ get_or marks (length marks - 1) before
last_from-last before [] = refl
last_from-last before (mark ∷ []) = refl
last_from-last before (mark ∷ next ∷ marks) =
    let n = length marks in
    let one : suc n - 1 ≡ n = omega arith in
    let two : suc (suc n) - 1 ≡ suc n = omega arith in
    last_from-last mark (next ∷ marks)
    ∙ ap (λ (k : ℕ). get_or (next ∷ marks) k mark) one
    ∙ get_or_default (next ∷ marks) n mark before (omega arith)
    ∙ ap (λ (k : ℕ). get_or (mark ∷ next ∷ marks) k before) (sym two)

pub Makes-append : (before : ℕ) (items : List Item) (marks : List ℕ) (entries : List (Entry × ℕ)) (others : List Item) (more : List ℕ) (later : List (Entry × ℕ))
    → Makes before items marks entries → Makes (last_from before marks) others more later → Makes before (items ++ others) (marks ++ more) (entries ++ later)
unfolding Makes
Makes-append before [] [] [] others more later front back = back
Makes-append before [] [] (at ∷ entries) others more later front back = absurd front
Makes-append before [] (mark ∷ marks) entries others more later front back = absurd front
Makes-append before (Err refusal ∷ items) [] entries others more later front back = absurd front
Makes-append before (Err refusal ∷ items) (mark ∷ marks) entries others more later front back =
    (front.0, Makes-append mark items marks entries others more later front.1 back)
Makes-append before (Ok (Edit edit) ∷ items) [] entries others more later front back = absurd front
Makes-append before (Ok (Edit edit) ∷ items) (mark ∷ marks) [] others more later front back = absurd front
Makes-append before (Ok (Edit edit) ∷ items) (mark ∷ marks) (at ∷ entries) others more later front back =
    (front.0, front.1, Makes-append mark items marks entries others more later front.2 back)
Makes-append before (Ok (View view) ∷ items) [] entries others more later front back = absurd front
Makes-append before (Ok (View view) ∷ items) (mark ∷ marks) [] others more later front back = absurd front
Makes-append before (Ok (View view) ∷ items) (mark ∷ marks) (at ∷ []) others more later front back = absurd front
Makes-append before (Ok (View view) ∷ items) (mark ∷ marks) (at ∷ after ∷ entries) others more later front back =
    (front.0, front.1, front.2, Makes-append mark items marks entries others more later front.3 back)
Makes-append before (Ok (Count filter) ∷ items) [] entries others more later front back = absurd front
Makes-append before (Ok (Count filter) ∷ items) (mark ∷ marks) [] others more later front back = absurd front
Makes-append before (Ok (Count filter) ∷ items) (mark ∷ marks) (at ∷ []) others more later front back = absurd front
Makes-append before (Ok (Count filter) ∷ items) (mark ∷ marks) (at ∷ after ∷ entries) others more later front back =
    (front.0, front.1, front.2, Makes-append mark items marks entries others more later front.3 back)
Makes-append before (Ok Save ∷ items) [] entries others more later front back = absurd front
Makes-append before (Ok Save ∷ items) (mark ∷ marks) [] others more later front back = absurd front
Makes-append before (Ok Save ∷ items) (mark ∷ marks) (at ∷ []) others more later front back = absurd front
Makes-append before (Ok Save ∷ items) (mark ∷ marks) (at ∷ after ∷ entries) others more later front back =
    (front.0, front.1, front.2, Makes-append mark items marks entries others more later front.3 back)

pub Makes-length : (before : ℕ) (items : List Item) (marks : List ℕ) (entries : List (Entry × ℕ)) → Makes before items marks entries → length items ≡ length marks
unfolding Makes
Makes-length before [] [] entries made = refl
Makes-length before [] (mark ∷ marks) entries made = absurd made
Makes-length before (Err refusal ∷ items) [] entries made = absurd made
Makes-length before (Err refusal ∷ items) (mark ∷ marks) entries made = ap (λ (n : ℕ). suc n) (Makes-length mark items marks entries made.1)
Makes-length before (Ok (Edit edit) ∷ items) [] entries made = absurd made
Makes-length before (Ok (Edit edit) ∷ items) (mark ∷ marks) [] made = absurd made
Makes-length before (Ok (Edit edit) ∷ items) (mark ∷ marks) (at ∷ entries) made = ap (λ (n : ℕ). suc n) (Makes-length mark items marks entries made.2)
Makes-length before (Ok (View view) ∷ items) [] entries made = absurd made
Makes-length before (Ok (View view) ∷ items) (mark ∷ marks) [] made = absurd made
Makes-length before (Ok (View view) ∷ items) (mark ∷ marks) (at ∷ []) made = absurd made
Makes-length before (Ok (View view) ∷ items) (mark ∷ marks) (at ∷ after ∷ entries) made = ap (λ (n : ℕ). suc n) (Makes-length mark items marks entries made.3)
Makes-length before (Ok (Count filter) ∷ items) [] entries made = absurd made
Makes-length before (Ok (Count filter) ∷ items) (mark ∷ marks) [] made = absurd made
Makes-length before (Ok (Count filter) ∷ items) (mark ∷ marks) (at ∷ []) made = absurd made
Makes-length before (Ok (Count filter) ∷ items) (mark ∷ marks) (at ∷ after ∷ entries) made = ap (λ (n : ℕ). suc n) (Makes-length mark items marks entries made.3)
Makes-length before (Ok Save ∷ items) [] entries made = absurd made
Makes-length before (Ok Save ∷ items) (mark ∷ marks) [] made = absurd made
Makes-length before (Ok Save ∷ items) (mark ∷ marks) (at ∷ []) made = absurd made
Makes-length before (Ok Save ∷ items) (mark ∷ marks) (at ∷ after ∷ entries) made = ap (λ (n : ℕ). suc n) (Makes-length mark items marks entries made.3)

pub tale_length : (h0 h : List Entry) (who : ℕ) (items : List Item) (marks : List ℕ) → IsTale h0 h who items marks → length items ≡ length marks
tale_length h0 h who items marks tale = Makes-length 0 items marks (news who h0 h) tale.makes

-- no mark is below an earlier one
abbrev pub AreRising : List ℕ → Type 0
AreRising marks = (j k : ℕ) → j ≤ k → k < length marks → get_or marks j 0 ≤ get_or marks k 0

-- no mark is above a number
abbrev pub AreWithin : List ℕ → ℕ → Type 0
AreWithin marks n = (k : ℕ) → k < length marks → get_or marks k 0 ≤ n

rising_push : (marks : List ℕ) (mark : ℕ) → AreWithin marks mark → AreRising marks → AreRising (marks ++ mark ∷ [])
rising_push marks mark within rising j k before inside =
    elim (cases_lt k (length marks)) as (λ _. get_or (marks ++ mark ∷ []) j 0 ≤ get_or (marks ++ mark ∷ []) k 0) [
      | inl old ↦ rw (get_or_append_left marks (mark ∷ []) 0 j (omega arith), get_or_append_left marks (mark ∷ []) 0 k old) (rising j k before old)
      | inr new ↦
          let last : get_or (marks ++ mark ∷ []) k 0 ≡ mark = get_or_push marks mark 0 k (omega (arith, length_push marks mark)) in
          elim (cases_lt j (length marks)) as (λ _. get_or (marks ++ mark ∷ []) j 0 ≤ get_or (marks ++ mark ∷ []) k 0) [
            | inl older ↦ rw (last, get_or_append_left marks (mark ∷ []) 0 j older) (within j older)
            | inr same ↦ let here : get_or (marks ++ mark ∷ []) j 0 ≡ mark = get_or_push marks mark 0 j (omega (arith, length_push marks mark)) in omega arith
          ]
    ]

within_cons : (mark : ℕ) (marks : List ℕ) (n : ℕ) → mark ≤ n → AreWithin marks n → AreWithin (mark ∷ marks) n
within_cons mark marks n low within zero inside = low
within_cons mark marks n low within (suc k) inside = within k (omega arith)

within_shown : (mark : ℕ) (marks : List ℕ) (n : ℕ) (at after : Entry × ℕ) (entries : List (Entry × ℕ)) → mark ≡ at.1 → AreUpTo n (at ∷ after ∷ entries)
    → (mark ≤ n → AreUpTo n entries → AreWithin marks n) → AreWithin (mark ∷ marks) n
within_shown mark marks n at after entries is up_to others =
    let within = λ (at : Entry × ℕ). at.1 ≤ n in
    let first = All-head within at (after ∷ entries) up_to in
    let here : mark ≤ n = omega (arith, is, first) in
    within_cons mark marks n here (others here (All-tail within after entries (All-tail within at (after ∷ entries) up_to)))

-- marks are no newer than the entries that they are of
Makes-within : (before n : ℕ) (items : List Item) (marks : List ℕ) (entries : List (Entry × ℕ)) → Makes before items marks entries → before ≤ n → AreUpTo n entries → AreWithin marks n
unfolding Makes
Makes-within before n [] [] entries made low up_to = λ k inside. absurd (omega arith)
Makes-within before n [] (mark ∷ marks) entries made low up_to = absurd made
Makes-within before n (Err refusal ∷ items) [] entries made low up_to = absurd made
Makes-within before n (Err refusal ∷ items) (mark ∷ marks) entries made low up_to =
    let here : mark ≤ n = omega (arith, made.0) in
    within_cons mark marks n here (Makes-within mark n items marks entries made.1 here up_to)
Makes-within before n (Ok (Edit edit) ∷ items) [] entries made low up_to = absurd made
Makes-within before n (Ok (Edit edit) ∷ items) (mark ∷ marks) [] made low up_to = absurd made
Makes-within before n (Ok (Edit edit) ∷ items) (mark ∷ marks) (at ∷ entries) made low up_to =
    let first = All-head (λ (at : Entry × ℕ). at.1 ≤ n) at entries up_to in
    let here : mark ≤ n = omega (arith, made.1, first) in
    within_cons mark marks n here (Makes-within mark n items marks entries made.2 here (All-tail (λ (at : Entry × ℕ). at.1 ≤ n) at entries up_to))
Makes-within before n (Ok (View view) ∷ items) [] entries made low up_to = absurd made
Makes-within before n (Ok (View view) ∷ items) (mark ∷ marks) [] made low up_to = absurd made
Makes-within before n (Ok (View view) ∷ items) (mark ∷ marks) (at ∷ []) made low up_to = absurd made
Makes-within before n (Ok (View view) ∷ items) (mark ∷ marks) (at ∷ after ∷ entries) made low up_to =
    within_shown mark marks n at after entries made.1 up_to (Makes-within mark n items marks entries made.3)
Makes-within before n (Ok (Count filter) ∷ items) [] entries made low up_to = absurd made
Makes-within before n (Ok (Count filter) ∷ items) (mark ∷ marks) [] made low up_to = absurd made
Makes-within before n (Ok (Count filter) ∷ items) (mark ∷ marks) (at ∷ []) made low up_to = absurd made
Makes-within before n (Ok (Count filter) ∷ items) (mark ∷ marks) (at ∷ after ∷ entries) made low up_to =
    within_shown mark marks n at after entries made.1 up_to (Makes-within mark n items marks entries made.3)
Makes-within before n (Ok Save ∷ items) [] entries made low up_to = absurd made
Makes-within before n (Ok Save ∷ items) (mark ∷ marks) [] made low up_to = absurd made
Makes-within before n (Ok Save ∷ items) (mark ∷ marks) (at ∷ []) made low up_to = absurd made
Makes-within before n (Ok Save ∷ items) (mark ∷ marks) (at ∷ after ∷ entries) made low up_to =
    within_shown mark marks n at after entries made.1 up_to (Makes-within mark n items marks entries made.3)

-- each mark is a version that is published
pub tale_within : (h0 h : List Entry) (who : ℕ) (items : List Item) (marks : List ℕ) → Makes 0 items marks (news who h0 h) → AreWithin marks (length (journal h))
tale_within h0 h who items marks made = Makes-within 0 (length (journal h)) items marks (news who h0 h) made (omega arith) (news-up_to who h0 h)

-- as many pins of a version are given back as taken
abbrev IsEven : ℕ → List (Entry × ℕ) → Type 0
IsEven v entries = how_many (is_unpin v) entries ≡ how_many (is_pin v) entries

how_many-cons : (test : What → ℕ → Bool) (at : Entry × ℕ) (entries : List (Entry × ℕ)) → how_many test (at ∷ entries) ≡ cond (test at.0.what at.1) 1 0 + how_many test entries
how_many-cons test at entries = sum_by-cons (λ (at : Entry × ℕ). cond (test at.0.what at.1) 1 0) at entries

even_publish : (v : ℕ) (edit : meaning.Edit) (at : Entry × ℕ) (entries : List (Entry × ℕ)) → at.0.what ≡ Publish edit → IsEven v entries → IsEven v (at ∷ entries)
even_publish v edit at entries is even =
    let unpins : ◌≡◌ {A = ℕ} (cond (is_unpin v at.0.what at.1) 1 0) 0 = rw is refl in
    let pins : ◌≡◌ {A = ℕ} (cond (is_pin v at.0.what at.1) 1 0) 0 = rw is refl in
    omega (arith, unpins, pins, even, how_many-cons (is_unpin v) at entries, how_many-cons (is_pin v) at entries)

even_shown : (v mark : ℕ) (at after : Entry × ℕ) (entries : List (Entry × ℕ)) → at.0.what ≡ Pin → mark ≡ at.1 → after.0.what ≡ Unpin mark → IsEven v entries → IsEven v (at ∷ after ∷ entries)
even_shown v mark at after entries pinned is given even =
    let one : ℕ = cond (eqb mark v) 1 0 in
    let first : ◌≡◌ {A = ℕ} (cond (is_pin v at.0.what at.1) 1 0) one = rw (pinned, is) refl in
    let none : ◌≡◌ {A = ℕ} (cond (is_unpin v at.0.what at.1) 1 0) 0 = rw pinned refl in
    let then : ◌≡◌ {A = ℕ} (cond (is_unpin v after.0.what after.1) 1 0) one = rw given refl in
    let no : ◌≡◌ {A = ℕ} (cond (is_pin v after.0.what after.1) 1 0) 0 = rw given refl in
    omega (
      arith,
      first,
      none,
      then,
      no,
      even,
      how_many-cons (is_unpin v) at (after ∷ entries),
      how_many-cons (is_pin v) at (after ∷ entries),
      how_many-cons (is_unpin v) after entries,
      how_many-cons (is_pin v) after entries,
    )

-- a session gives back what it pins
Makes-even : (v before : ℕ) (items : List Item) (marks : List ℕ) (entries : List (Entry × ℕ)) → Makes before items marks entries → IsEven v entries
unfolding Makes
Makes-even v before [] [] [] made = refl
Makes-even v before [] [] (at ∷ entries) made = absurd made
Makes-even v before [] (mark ∷ marks) entries made = absurd made
Makes-even v before (Err refusal ∷ items) [] entries made = absurd made
Makes-even v before (Err refusal ∷ items) (mark ∷ marks) entries made = Makes-even v mark items marks entries made.1
Makes-even v before (Ok (Edit edit) ∷ items) [] entries made = absurd made
Makes-even v before (Ok (Edit edit) ∷ items) (mark ∷ marks) [] made = absurd made
Makes-even v before (Ok (Edit edit) ∷ items) (mark ∷ marks) (at ∷ entries) made =
    even_publish v edit at entries made.0 (Makes-even v mark items marks entries made.2)
Makes-even v before (Ok (View view) ∷ items) [] entries made = absurd made
Makes-even v before (Ok (View view) ∷ items) (mark ∷ marks) [] made = absurd made
Makes-even v before (Ok (View view) ∷ items) (mark ∷ marks) (at ∷ []) made = absurd made
Makes-even v before (Ok (View view) ∷ items) (mark ∷ marks) (at ∷ after ∷ entries) made =
    even_shown v mark at after entries made.0 made.1 made.2 (Makes-even v mark items marks entries made.3)
Makes-even v before (Ok (Count filter) ∷ items) [] entries made = absurd made
Makes-even v before (Ok (Count filter) ∷ items) (mark ∷ marks) [] made = absurd made
Makes-even v before (Ok (Count filter) ∷ items) (mark ∷ marks) (at ∷ []) made = absurd made
Makes-even v before (Ok (Count filter) ∷ items) (mark ∷ marks) (at ∷ after ∷ entries) made =
    even_shown v mark at after entries made.0 made.1 made.2 (Makes-even v mark items marks entries made.3)
Makes-even v before (Ok Save ∷ items) [] entries made = absurd made
Makes-even v before (Ok Save ∷ items) (mark ∷ marks) [] made = absurd made
Makes-even v before (Ok Save ∷ items) (mark ∷ marks) (at ∷ []) made = absurd made
Makes-even v before (Ok Save ∷ items) (mark ∷ marks) (at ∷ after ∷ entries) made =
    even_shown v mark at after entries made.0 made.1 made.2 (Makes-even v mark items marks entries made.3)

-- a caller whose new entries these are gave each of its pins back
pub given_back_after : (h0 h : List Entry) (who : ℕ) (items : List Item) (marks : List ℕ) → IsPrefix h0 h → Makes 0 items marks (news who h0 h) → HasGivenBack h0 who → HasGivenBack h who
given_back_after h0 h who items marks begins made back v =
    let old = entries_by who (numbered 0 h0) in
    let new = news who h0 h in
    let split : (test : What → ℕ → Bool) → how_many test (entries_by who (numbered 0 h)) ≡ how_many test old + how_many test new =
    λ test. ap (how_many test) (entries_by-news who h0 h begins) ∙ sum_by-append (λ (at : Entry × ℕ). cond (test at.0.what at.1) 1 0) old new in
    omega (arith, split (is_unpin v), split (is_pin v), back v, Makes-even v 0 items marks new made)

-- a session that has processed nothing
pub tale_nothing : (h : List Entry) (who : ℕ) → IsTale h h who [] []
unfolding Makes
tale_nothing h who = record {
  begins = prefix_self h;
  makes = rw (drop-numbered h) tt;
  rising = λ j k before inside. absurd (omega arith);
  newer = λ k command is. absurd (cc);
}

-- the mark of one more item is no older than those before it
mark_after : (item : Item) (mark n : ℕ) (marks : List ℕ) (entries : List (Entry × ℕ)) → Makes (last_mark marks) (item ∷ []) (mark ∷ []) entries → IfOk item (λ command. n ≤ mark)
    → AreWithin marks n → AreRising marks → AreWithin marks mark
unfolding Makes
mark_after (Ok command) mark n marks entries made newer within rising = λ k inside. let low = within k inside in omega arith
mark_after (Err refusal) mark n marks entries made newer within rising = λ k inside. let low = rising k (length marks - 1) (omega arith) (omega arith) in omega (arith, made.0, low)

newer_push : (items : List Item) (marks : List ℕ) (item : Item) (mark n : ℕ) → length items ≡ length marks → IfOk item (λ command. n ≤ mark)
    → ((k : ℕ) (command : Command) → slice_get items k ≡ Some (Ok command) → n ≤ get_or marks k 0)
    → (k : ℕ) (command : Command) → slice_get (items ++ item ∷ []) k ≡ Some (Ok command) → n ≤ get_or (marks ++ mark ∷ []) k 0
newer_push items marks item mark n same last newer k command is =
    let all = items ++ item ∷ [] in
    let inside : k < length all = slice_get_within all k (Ok command) is in
    elim (cases_lt k (length items)) as (λ _. n ≤ get_or (marks ++ mark ∷ []) k 0) [
      | inl old ↦
          let here : slice_get items k ≡ slice_get all k = slice_get-get_or items k item old ∙ ap Some (sym (get_or_append_left items (item ∷ []) item k old)) ∙ sym (slice_get-get_or all k item inside) in
          rw (get_or_append_left marks (mark ∷ []) 0 k (omega arith)) (newer k command (here ∙ is))
      | inr new ↦
          let place : length items ≡ k = omega (arith, length_push items item) in
          let found : Some item ≡ Some (Ok command) = ap Some (sym (get_or_push items item item k place)) ∙ sym (slice_get-get_or all k item inside) ∙ is in
          let it : item ≡ Ok command = cc in
          rw (get_or_push marks mark 0 k (sym same ∙ place)) (subst (λ (i : Item). IfOk i (λ command. n ≤ mark)) it last)
    ]

-- one item more
pub tale_more : (h0 h later : List Entry) (who : ℕ) (items : List Item) (marks : List ℕ) (item : Item) (mark : ℕ) (entries : List (Entry × ℕ)) → IsTale h0 h who items marks
    → IsPrefix h later → entries_by who (numbered 0 later) ≡ entries_by who (numbered 0 h) ++ entries → Makes (last_mark marks) (item ∷ []) (mark ∷ []) entries
    → IfOk item (λ command. length (journal h) ≤ mark) → IsTale h0 later who (items ++ item ∷ []) (marks ++ mark ∷ [])
tale_more h0 h later who items marks item mark entries tale begins more makes newer =
    let n = length (journal h) in
    let first : length (journal h0) ≤ n = length-journal_later h0 h tale.begins in
    let one : Makes (last_from 0 marks) (item ∷ []) (mark ∷ []) entries = subst (λ (k : ℕ). Makes k (item ∷ []) (mark ∷ []) entries) (sym (last_from-last 0 marks)) makes in
    record {
      begins = prefix_trans h0 h later tale.begins begins;
      makes = rw (news-more who h0 h later entries tale.begins begins more) (Makes-append 0 items marks (news who h0 h) (item ∷ []) (mark ∷ []) entries tale.makes one);
      rising = rising_push marks mark (mark_after item mark n marks entries makes newer (tale_within h0 h who items marks tale.makes) tale.rising) tale.rising;
      newer = newer_push items marks item mark (length (journal h0)) (tale_length h0 h who items marks tale) (older item mark n first newer) tale.newer;
    }
  where
    older : (item : Item) (mark n : ℕ) → length (journal h0) ≤ n → IfOk item (λ command. n ≤ mark) → IfOk item (λ command. length (journal h0) ≤ mark)
    older (Ok command) mark n first newer = omega arith
    older (Err refusal) mark n first newer = newer

-- nothing more
pub tale_stays : (h0 h later : List Entry) (who : ℕ) (items : List Item) (marks : List ℕ) → IsTale h0 h who items marks → IsPrefix h later
    → entries_by who (numbered 0 later) ≡ entries_by who (numbered 0 h) → IsTale h0 later who items marks
tale_stays h0 h later who items marks tale begins same = record {
  begins = prefix_trans h0 h later tale.begins begins;
  makes = rw (news-same who h0 h later tale.begins begins same) tale.makes;
  rising = tale.rising;
  newer = tale.newer;
}
