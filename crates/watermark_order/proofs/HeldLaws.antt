-- What adding and taking out do to the events that are held in a queue and a map.
use Rattle.std.proofs.Common.{◌≡◌, refl, sym, ◌∙◌, ap, subst, ℕ, zero, suc, ◌<◌, arith, ℤ, int_le, Bool, true, false, not, ◌⊎◌, inl, inr, List, [], ◌∷◌, ◌++◌, length, get_or, append_assoc, slice_get}
use Rattle.std.specs.Prelude.{if◌then◌else◌, Option, Some, None, IfNone, option_to_list}
use Rattle.std.specs.BTreeMap.{insert_entry}
use Rattle.std.specs.List.{AllByRecursion as Each}
use Rattle.std.specs.Map.{values_of}
use Rattle.std.specs.Ordering.{nat_cmp, int_cmp, ordering_then, ordering_reverse, is_lt, match_ordering}
use Rattle.std.specs.declared.cmp.Ordering.{Ordering}
use Rattle.std.specs.declared.cmp.Ordering.TheVariants.{Less, Equal, Greater}
use Rattle.std.proofs.lemmas.Cmp.{int_ranked}
use Rattle.std.proofs.lemmas.Int.{ints}
use Rattle.cep_event.specs.declared.event.Event.{Event}
use Rattle.cep_event.specs.declared.record.Moment.{Moment}
use Rattle.cep_event.specs.declared.record.Moment.TheVariants.{At, End}
use Rattle.cep_plan.specs.EventTime.{time_cmp, put_in_order, in_time_order}
use Rattle.watermark_order.specs.Sooner.{is_sooner, IsUpward}
use Rattle.watermark_order.specs.Reached.{is_reached}
use Rattle.watermark_order.specs.Held.{key_of, IsKeyed, is_behind, is_first_here, first_reached}
use Rattle.watermark_order.proofs.TimeLaws.{order-behind, order-put, put-upward, each-left, each-from_order, time_cmp-total, is_sooner-order, one_sooner, each-append, each-right, order-upward, order-first, order-aside}

-- ---- behind the queue

pub behind-at : (events : List Event) (n : ℕ) (d : Event) (time : ℤ) → length events ≡ suc n → int_le (get_or events n d).ts time ≡ is_behind events time
behind-at [] n d time e = absurd (omega (arith, e))
behind-at (x ∷ []) zero d time e = refl
behind-at (x ∷ []) (suc n) d time e = absurd (omega (arith, e))
behind-at (x ∷ y ∷ xs) zero d time e = absurd (omega (arith, e))
behind-at (x ∷ y ∷ xs) (suc n) d time e = behind-at (y ∷ xs) n d time (omega (arith, e))

not_greater : (a b : ℤ) → int_cmp a b ≡ Greater → int_le a b ≡ true → ⊥
not_greater a b is le = let more = int_ranked a b Greater (sym is) in absurd (grind (arith, ints))

not_sooner : (x event : Event) → x.row < event.row → int_le x.ts event.ts ≡ true → is_sooner event x ≡ false
not_sooner x event rows le = is_sooner-order.one_way x event (by_times (int_cmp x.ts event.ts) refl) where
  by_times : (o : Ordering) → int_cmp x.ts event.ts ≡ o → is_sooner x event ≡ true
  by_times Less is = ap (λ o. is_lt (ordering_then o (nat_cmp x.row event.row))) is
  by_times Equal is = ap (λ o. is_lt (ordering_then o (nat_cmp x.row event.row))) is ∙ lower x.row event.row rows where
    lower : (a b : ℕ) → a < b → is_lt (nat_cmp a b) ≡ true
    lower a b h = grind arith
  by_times Greater is = absurd (not_greater x.ts event.ts is le)

pub upward-behind : (events : List Event) (event : Event) → IsUpward events → Each (λ y. y.row < event.row) events → is_behind events event.ts ≡ true
    → IsUpward (events ++ event ∷ [])
upward-behind [] event h rows le = (tt, tt)
upward-behind (x ∷ []) event h rows le = ((not_sooner x event rows.0 le, tt), (tt, tt))
upward-behind (x ∷ y ∷ xs) event h rows le =
    let rest = upward-behind (y ∷ xs) event h.1 rows.1 le in
    let last : is_sooner event y ≡ false = (each-right (λ z. is_sooner z y ≡ false) xs (event ∷ []) rest.0).0 in
    (each-append (λ z. is_sooner z x ≡ false) (y ∷ xs) (event ∷ []) h.0 (is_sooner-order.chain event y x last h.0.0, tt), rest)

pub upward-pushed : (ok : Bool) (old new : List Event) (event : Event) → new ≡ (if ok then old ++ event ∷ [] else old) → IsUpward old
    → IsUpward (old ++ event ∷ []) → IsUpward new
upward-pushed true old new event is up up' = subst IsUpward (sym is) up'
upward-pushed false old new event is up up' = subst IsUpward (sym is) up

-- what is said of all events that wait is said of those of the queue and those of the map
pub each-held : (P : Event → Type 0) (queue aside whole : List Event) → in_time_order (queue ++ aside) ≡ whole → Each P whole → Each P queue × Each P aside
each-held P queue aside whole is h =
    let all : Each P (queue ++ aside) = each-from_order P (queue ++ aside) (subst (Each P) (sym is) h) in
    (each-left P queue aside all, each-right P queue aside all)

pub pushed-behind : (queue queue' aside whole : List Event) (event : Event) → in_time_order (queue ++ aside) ≡ whole
    → Each (λ y. y.row < event.row) queue → queue' ≡ queue ++ event ∷ [] → in_time_order (queue' ++ aside) ≡ put_in_order event whole
pushed-behind queue queue' aside whole event is rows pushed =
    ap (λ l. in_time_order (l ++ aside)) pushed ∙ ap in_time_order (append_assoc queue (event ∷ []) aside) ∙ order-behind event queue aside rows
    ∙ ap (put_in_order event) is

-- ---- into the map

abbrev pub key_cmp : ℤ × ℕ → ℤ × ℕ → Ordering
key_cmp a b = ordering_then (int_cmp a.0 b.0) (nat_cmp a.1 b.1)

-- events of different rows don't tie
not_equal : (y event : Event) → y.row < event.row → time_cmp event y ≡ Equal → ⊥
not_equal y event rows is = by_sooner (one_sooner y event rows) where
  by_sooner : (is_sooner y event ≡ true) ⊎ (is_sooner event y ≡ true) → ⊥
  by_sooner (inl h) = let no : true ≡ false = sym h ∙ ap is_lt (time_cmp-total.antisymm y event ∙ ap ordering_reverse is) in cc
  by_sooner (inr h) = let no : true ≡ false = sym h ∙ ap is_lt is in cc

abbrev pub IsPut : Event → List ((ℤ × ℕ) × Event) → Type 0
IsPut event entries = (values_of (insert_entry key_cmp entries (key_of event) event) ≡ put_in_order event (values_of entries))
    × Each IsKeyed (insert_entry key_cmp entries (key_of event) event)

pub aside-put : (event : Event) (entries : List ((ℤ × ℕ) × Event)) → Each IsKeyed entries → Each (λ y. y.row < event.row) (values_of entries)
    → IsPut event entries
aside-put event [] keyed rows = (refl, (refl, tt))
aside-put event (e ∷ entries) keyed rows = by_order (time_cmp event e.1) refl (aside-put event entries keyed.1 rows.1) where
  key : key_cmp (key_of event) e.0 ≡ time_cmp event e.1
  key = ap (key_cmp (key_of event)) keyed.0

  made : Ordering → List ((ℤ × ℕ) × Event)
  made o = match_ordering o ((key_of event, event) ∷ e ∷ entries) ((e.0, event) ∷ entries) (e ∷ insert_entry key_cmp entries (key_of event) event)

  by_order : (o : Ordering) → time_cmp event e.1 ≡ o → IsPut event entries → IsPut event (e ∷ entries)
  by_order Less is go =
      let test : is_sooner e.1 event ≡ false = ap is_lt (time_cmp-total.antisymm e.1 event ∙ ap ordering_reverse is) in
      let here : insert_entry key_cmp (e ∷ entries) (key_of event) event ≡ (key_of event, event) ∷ e ∷ entries =
      ap (λ o. match_ordering o ((key_of event, event) ∷ e ∷ entries) ((e.0, event) ∷ entries)
      (e ∷ insert_entry key_cmp entries (key_of event) event)) (key ∙ is) in (
        ap values_of here ∙ sym (ap (λ b. if b then e.1 ∷ put_in_order event (values_of entries) else event ∷ e.1 ∷ values_of entries) test),
        subst (Each IsKeyed) (sym here) (refl, keyed),
      )
  by_order Equal is go = absurd (not_equal e.1 event rows.0 is)
  by_order Greater is go =
      let test : is_sooner e.1 event ≡ true = ap is_lt (time_cmp-total.antisymm e.1 event ∙ ap ordering_reverse is) in
      let here : insert_entry key_cmp (e ∷ entries) (key_of event) event ≡ e ∷ insert_entry key_cmp entries (key_of event) event =
      ap (λ o. match_ordering o ((key_of event, event) ∷ e ∷ entries) ((e.0, event) ∷ entries)
      (e ∷ insert_entry key_cmp entries (key_of event) event)) (key ∙ is) in (
        ap values_of here ∙ ap (λ l. e.1 ∷ l) go.0
            ∙ sym (ap (λ b. if b then e.1 ∷ put_in_order event (values_of entries) else event ∷ e.1 ∷ values_of entries) test),
        subst (Each IsKeyed) (sym here) (keyed.0, go.1),
      )

pub pushed-aside : (queue : List Event) (aside entries : List ((ℤ × ℕ) × Event)) (whole : List Event) (event : Event)
    → in_time_order (queue ++ values_of aside) ≡ whole
    → Each IsKeyed aside → Each (λ y. y.row < event.row) queue → Each (λ y. y.row < event.row) (values_of aside)
    → entries ≡ insert_entry key_cmp aside (key_of event) event
    → in_time_order (queue ++ values_of entries) ≡ put_in_order event whole
pushed-aside queue aside entries whole event is keyed rows rows' put =
    ap (λ l. in_time_order (queue ++ l)) (ap values_of put ∙ (aside-put event aside keyed rows').0) ∙ order-put event queue (values_of aside) rows
    ∙ ap (put_in_order event) is

pub aside-held : (aside entries : List ((ℤ × ℕ) × Event)) (event : Event) → Each IsKeyed aside → IsUpward (values_of aside)
    → Each (λ y. y.row < event.row) (values_of aside)
    → entries ≡ insert_entry key_cmp aside (key_of event) event → IsUpward (values_of entries) × Each IsKeyed entries
aside-held aside entries event keyed up rows put =
    let here = aside-put event aside keyed rows in
    (subst IsUpward (sym (ap values_of put ∙ here.0)) (put-upward event (values_of aside) up), subst (Each IsKeyed) (sym put) here.1)

-- ---- taking out

nothing_there : {X : Type 0} (x : X) → None ≡ Some x → ⊥
nothing_there x h = cc

pub first-here : (queue : List Event) (entries : List ((ℤ × ℕ) × Event)) (x y : Event) (k : ℤ × ℕ) → 0 < length queue → x ≡ get_or queue 0 x
    → slice_get entries 0 ≡ Some (k, y) → not (is_sooner y x) ≡ is_first_here queue (values_of entries)
first-here [] entries x y k some at get = absurd (omega (arith, some))
first-here (e ∷ queue) [] x y k some at get = absurd (nothing_there (k, y) get)
first-here (e ∷ queue) (f ∷ entries) x y k some at get =
    let head : f ≡ (k, y) = let whole : Some f ≡ Some (k, y) = get in cc in
    λ i. not (is_sooner (sym head i).1 (at i))

pub unreached-first : (mark : Option Moment) (entries : List ((ℤ × ℕ) × Event)) (y : Event) (k : ℤ × ℕ) → slice_get entries 0 ≡ Some (k, y)
    → is_reached mark y.ts ≡ false → None ≡ first_reached mark (values_of entries)
unreached-first mark [] y k get is = refl
unreached-first mark (f ∷ entries) y k get is =
    let head : f ≡ (k, y) = let whole : Some f ≡ Some (k, y) = get in cc in
    sym (ap (λ b. if b then Some f.1 else None) (ap (λ e. is_reached mark e.1.ts) head ∙ is))

-- no event is sooner than the first, so where the mark hasn't reached that one, it has reached none
later_unreached : (mark : Option Moment) (x y : Event) → is_sooner y x ≡ false → is_reached mark x.ts ≡ false → is_reached mark y.ts ≡ false
later_unreached None x y h is = refl
later_unreached (Some End) x y h is = is
later_unreached (Some (At now)) x y h is = above x.ts y.ts now (not_below (int_cmp y.ts x.ts) refl) is where
  not_below : (o : Ordering) → int_cmp y.ts x.ts ≡ o → int_le x.ts y.ts ≡ true
  not_below Less is' = let no : true ≡ false = sym (ap (λ o. is_lt (ordering_then o (nat_cmp y.row x.row))) is') ∙ h in absurd cc
  not_below Equal is' = from_equal y.ts x.ts is' where
    from_equal : (a b : ℤ) → int_cmp a b ≡ Equal → int_le b a ≡ true
    from_equal a b e = let same = int_ranked a b Equal (sym e) in grind (arith, ints)
  not_below Greater is' = from_greater y.ts x.ts is' where
    from_greater : (a b : ℤ) → int_cmp a b ≡ Greater → int_le b a ≡ true
    from_greater a b e = let more = int_ranked a b Greater (sym e) in grind (arith, ints)

  above : (a b now : ℤ) → int_le a b ≡ true → int_le a now ≡ false → int_le b now ≡ false
  above a b now le past = grind (arith, ints)

none_reached : (mark : Option Moment) (x : Event) (xs : List Event) → is_reached mark x.ts ≡ false → Each (λ y. is_sooner y x ≡ false) xs
    → Each (λ y. is_reached mark y.ts ≡ false) xs
none_reached mark x [] is h = tt
none_reached mark x (y ∷ xs) is h = (later_unreached mark x y h.0 is, none_reached mark x xs is h.1)

-- what a call that takes out the first event says
pub record Popped (mark : Option Moment) (whole : List Event) (popped : Option Event) (left : List Event) : Type 0 where
  pub first : popped ≡ first_reached mark whole
  pub rest : whole ≡ option_to_list popped ++ left
  pub none : IfNone popped (Each (λ event. is_reached mark event.ts ≡ false) left)

first_out : (mark : Option Moment) (x : Event) (xs whole left : List Event) (popped : Option Event) → whole ≡ x ∷ xs → IsUpward whole
    → popped ≡ (if is_reached mark x.ts then Some x else None) → (popped ≡ Some x → left ≡ xs) → (popped ≡ None → left ≡ whole) → Popped mark whole popped left
first_out mark x xs whole left popped is up from some none = by_test (is_reached mark x.ts) refl where
  at_first : first_reached mark whole ≡ (if is_reached mark x.ts then Some x else None)
  at_first = ap (first_reached mark) is

  by_test : (b : Bool) → is_reached mark x.ts ≡ b → Popped mark whole popped left
  by_test true h =
      let out : popped ≡ Some x = from ∙ ap (λ b. if b then Some x else None) h in
      record {
        first = from ∙ sym at_first;
        rest = is ∙ (λ i. option_to_list (sym out i) ++ sym (some out) i);
        none = subst (λ o. IfNone o (Each (λ event. is_reached mark event.ts ≡ false) left)) (sym out) tt;
      }
  by_test false h =
      let out : popped ≡ None = from ∙ ap (λ b. if b then Some x else None) h in
      let up' : IsUpward (x ∷ xs) = subst IsUpward is up in
      record {
        first = from ∙ sym at_first;
        rest = λ i. option_to_list (sym out i) ++ sym (none out) i;
        none =
            subst (λ o. IfNone o (Each (λ event. is_reached mark event.ts ≡ false) left)) (sym out)
            (subst (Each (λ event. is_reached mark event.ts ≡ false)) (sym (none out ∙ is)) (h, none_reached mark x xs h up'.0));
      }

was_true : (b : Bool) → not b ≡ true → b ≡ false
was_true true h = sym h
was_true false h = refl

was_false : (b : Bool) → not b ≡ false → b ≡ true
was_false true h = refl
was_false false h = sym h

-- nothing is sooner than what stands before it, through one more
each-chain : (x y : Event) (ys : List Event) → is_sooner y x ≡ false → Each (λ z. is_sooner z y ≡ false) ys → Each (λ z. is_sooner z x ≡ false) ys
each-chain x y [] h k = tt
each-chain x y (z ∷ ys) h k = (is_sooner-order.chain z y x k.0 h, each-chain x y ys h k.1)

each-sooner : (y x : Event) (xs : List Event) → is_sooner y x ≡ true → Each (λ z. is_sooner z x ≡ false) xs → Each (λ z. is_sooner y z ≡ true) xs
each-sooner y x [] h k = tt
each-sooner y x (z ∷ xs) h k = (by_test (is_sooner y z) refl, each-sooner y x xs h k.1) where
  by_test : (b : Bool) → is_sooner y z ≡ b → is_sooner y z ≡ true
  by_test true is = is
  by_test false is = let no : true ≡ false = sym h ∙ is_sooner-order.chain y z x is k.0 in absurd cc

-- the first of the queue, where no event of the map is sooner
pub pop-queued : (mark : Option Moment) (queue left aside : List Event) (popped : Option Event) → IsUpward queue → IsUpward aside
    → is_first_here queue aside ≡ true
    → popped ≡ first_reached mark queue → queue ≡ option_to_list popped ++ left
    → Popped mark (in_time_order (queue ++ aside)) popped (in_time_order (left ++ aside))
pop-queued mark [] left aside popped up up' here from rest = let no : false ≡ true = here in absurd cc
pop-queued mark (x ∷ queue) left aside popped up up' here from rest =
    first_out mark x (in_time_order (queue ++ aside)) (in_time_order (x ∷ queue ++ aside)) (in_time_order (left ++ aside)) popped
    (order-first x (queue ++ aside) (each-append (λ z. is_sooner z x ≡ false) queue aside up.0 (of_aside aside up' here)))
    (order-upward (x ∷ queue ++ aside)) from
    (λ out. let whole : x ∷ queue ≡ x ∷ left = rest ∙ ap (λ o. option_to_list o ++ left) out in let same : left ≡ queue = cc in
    ap (λ l. in_time_order (l ++ aside)) same)
    (λ out. ap (λ l. in_time_order (l ++ aside)) (sym (rest ∙ ap (λ o. option_to_list o ++ left) out))) where
      of_aside : (aside : List Event) → IsUpward aside → is_first_here (x ∷ queue) aside ≡ true → Each (λ z. is_sooner z x ≡ false) aside
      of_aside [] h k = tt
      of_aside (y ∷ ys) h k = let low : is_sooner y x ≡ false = was_true (is_sooner y x) k in (low, each-chain x y ys low h.0)

-- the first of the map, where the queue has none that comes before it
pub pop-aside : (mark : Option Moment) (queue aside left : List Event) (popped : Option Event) → IsUpward queue → IsUpward aside
    → is_first_here queue aside ≡ false
    → popped ≡ first_reached mark aside → aside ≡ option_to_list popped ++ left
    → Popped mark (in_time_order (queue ++ aside)) popped (in_time_order (queue ++ left))
pop-aside mark [] [] left popped up up' here from rest =
    let empty : left ≡ [] = sym (rest ∙ ap (λ o. option_to_list o ++ left) from) in
    record {
      first = from;
      rest = λ i. option_to_list (sym from i) ++ in_time_order (sym empty i);
      none =
          subst (λ o. IfNone o (Each (λ event. is_reached mark event.ts ≡ false) (in_time_order left))) (sym from)
          (subst (λ l. Each (λ event. is_reached mark event.ts ≡ false) (in_time_order l)) (sym empty) tt);
    }
pop-aside mark (x ∷ queue) [] left popped up up' here from rest = let no : true ≡ false = here in absurd cc
pop-aside mark [] (y ∷ aside) left popped up up' here from rest =
    first_out mark y (in_time_order aside) (in_time_order (y ∷ aside)) (in_time_order left) popped (order-first y aside up'.0) (order-upward (y ∷ aside)) from
    (λ out. let whole : y ∷ aside ≡ y ∷ left = rest ∙ ap (λ o. option_to_list o ++ left) out in let same : left ≡ aside = cc in ap in_time_order same)
    (λ out. ap in_time_order (sym (rest ∙ ap (λ o. option_to_list o ++ left) out)))
pop-aside mark (x ∷ queue) (y ∷ aside) left popped up up' here from rest =
    let low : is_sooner y x ≡ true = was_false (is_sooner y x) here in
    first_out mark y (in_time_order (x ∷ queue ++ aside)) (in_time_order (x ∷ queue ++ y ∷ aside)) (in_time_order (x ∷ queue ++ left)) popped
    (order-aside y (x ∷ queue) aside (low, each-sooner y x queue low up.0) up'.0)
    (order-upward (x ∷ queue ++ y ∷ aside)) from
    (λ out. let whole : y ∷ aside ≡ y ∷ left = rest ∙ ap (λ o. option_to_list o ++ left) out in let same : left ≡ aside = cc in
    ap (λ l. in_time_order (x ∷ queue ++ l)) same)
    (λ out. ap (λ l. in_time_order (x ∷ queue ++ l)) (sym (rest ∙ ap (λ o. option_to_list o ++ left) out)))
