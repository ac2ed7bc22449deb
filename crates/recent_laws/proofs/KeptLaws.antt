-- What is kept of items whose lists start behind the first events, and of moved items.
use Rattle.std.proofs.Common.{◌≡◌, refl, sym, ◌∙◌, ap, ℕ, ◌+◌, Bool, true, false, ◌&&◌, ◌||◌, cond, List, [], ◌∷◌, ◌++◌, map}
use Rattle.std.specs.Prelude.{filter, ◌==◌, if◌then◌else◌, Option, Some, None, option_map}
use Rattle.std.specs.List.{AllByRecursion as Each}
use Rattle.std.proofs.lemmas.List.{map-append, append-nil}
use Rattle.cep_plan.specs.declared.plan.Skip.{Skip}
use Rattle.cep_plan.specs.declared.plan.Skip.TheVariants.{No, ToNext, PastLast, ToFirst, ToLast}
use Rattle.cep_plan.specs.declared.item.Taken.{Taken}
use Rattle.cep_plan.specs.declared.item.Item.{Item}
use Rattle.cep_plan.specs.declared.item.Item.TheVariants.{Match, Timeout}
use Rattle.cep_plan.specs.Skipping.{start_of, end_of, entries_for, is_from_below, is_from_to, is_same, kills_start, kills, list_in, item_kills, is_killed, kept_after}
use Rattle.cep_plan.specs.Entry.{last_taken}
use Rattle.cep_plan.proofs.RisingLaws.{Each-append}
use Rattle.recent_laws.specs.Moved.{moved_event, moved_taken, moved_item}
use Rattle.recent_laws.proofs.NumberLaws.{ltb-moved, leb-moved, eqb-moved}
use Rattle.recent_laws.proofs.ListLaws.{last_or-map, filter-map}
use Rattle.recent_laws.proofs.BehindLaws.{filter-append}
use Rattle.recent_laws.proofs.FarLaws.{is_from, is_far}

-- ---- moved items

start_of-moved : (by : ℕ) (list : List Taken) → start_of (moved_taken by list) ≡ option_map (λ p. by + p) (start_of list)
start_of-moved by [] = refl
start_of-moved by (t ∷ list) = refl

end_of-moved : (by : ℕ) (list : List Taken) → end_of (moved_taken by list) ≡ option_map (λ p. by + p) (end_of list)
end_of-moved by list = ap (option_map (λ (t : Taken). t.position)) (last_or-map (moved_event by) None list) ∙ after (last_taken list) where
  after : (o : Option Taken) → option_map (λ (t : Taken). t.position) (option_map (moved_event by) o)
      ≡ option_map (λ p. by + p) (option_map (λ (t : Taken). t.position) o)
  after None = refl
  after (Some t) = refl

entries_for-moved : (by stage : ℕ) (list : List Taken) → entries_for stage (moved_taken by list) ≡ moved_taken by (entries_for stage list)
entries_for-moved by stage list = filter-map (moved_event by) (λ t. t.stage == stage) list

is_same-moved : (by : ℕ) (start : Option ℕ) (position : ℕ) → is_same (option_map (λ p. by + p) start) (by + position) ≡ is_same start position
is_same-moved by None position = refl
is_same-moved by (Some s) position = eqb-moved by s position

is_from_to-moved : (by : ℕ) (from to : Option ℕ) (position : ℕ) → is_from_to (option_map (λ p. by + p) from) (option_map (λ p. by + p) to) (by + position)
    ≡ is_from_to from to position
is_from_to-moved by None to position = refl
is_from_to-moved by (Some from) None position = refl
is_from_to-moved by (Some from) (Some to) position = λ i. leb-moved by from position i && leb-moved by position to i

is_from_below-moved : (by : ℕ) (from to : Option ℕ) (position : ℕ) → is_from_below (option_map (λ p. by + p) from) (option_map (λ p. by + p) to)
    (by + position) ≡ is_from_below from to position
is_from_below-moved by None to position = refl
is_from_below-moved by (Some from) None position = refl
is_from_below-moved by (Some from) (Some to) position = λ i. leb-moved by from position i && ltb-moved by position to i

kills_start-moved : (by : ℕ) (skip : Skip) (match : List Taken) (start : ℕ)
    → kills_start skip (moved_taken by match) (by + start) ≡ kills_start skip match start
kills_start-moved by No match start = refl
kills_start-moved by ToNext match start = ap (λ o. is_same o (by + start)) (start_of-moved by match) ∙ is_same-moved by (start_of match) start
kills_start-moved by PastLast match start = (λ i. is_from_to (start_of-moved by match i) (end_of-moved by match i) (by + start))
    ∙ is_from_to-moved by (start_of match) (end_of match) start
kills_start-moved by (ToFirst stage) match start =
    (λ i. is_from_below (start_of-moved by match i) ((ap start_of (entries_for-moved by stage match) ∙ start_of-moved by (entries_for stage match)) i)
    (by + start))
    ∙ is_from_below-moved by (start_of match) (start_of (entries_for stage match)) start
kills_start-moved by (ToLast stage) match start =
    (λ i. is_from_below (start_of-moved by match i) ((ap end_of (entries_for-moved by stage match) ∙ end_of-moved by (entries_for stage match)) i) (by + start))
    ∙ is_from_below-moved by (start_of match) (end_of (entries_for stage match)) start

kills-moved : (by : ℕ) (skip : Skip) (match list : List Taken) → kills skip (moved_taken by match) (moved_taken by list) ≡ kills skip match list
unfolding kills
kills-moved by skip match [] = refl
kills-moved by skip match (t ∷ list) = kills_start-moved by skip match t.position

item_kills-moved : (by : ℕ) (skip : Skip) (list : List Taken) (item : Item)
    → item_kills skip (moved_taken by list) (moved_item by item) ≡ item_kills skip list item
item_kills-moved by skip list (Match match) = kills-moved by skip match list
item_kills-moved by skip list (Timeout other) = refl

pub is_killed-moved : (by : ℕ) (skip : Skip) (items : List Item) (list : List Taken)
    → is_killed skip (map (moved_item by) items) (moved_taken by list) ≡ is_killed skip items list
is_killed-moved by skip [] list = refl
is_killed-moved by skip (item ∷ items) list = λ i. item_kills-moved by skip list item i || is_killed-moved by skip items list i

list_in-moved : (by : ℕ) (item : Item) → list_in (moved_item by item) ≡ moved_taken by (list_in item)
list_in-moved by (Match list) = refl
list_in-moved by (Timeout list) = refl

-- what is kept of moved items
pub kept_after-moved : (by : ℕ) (skip : Skip) (before items : List Item) → kept_after skip (map (moved_item by) before) (map (moved_item by) items)
    ≡ map (moved_item by) (kept_after skip before items)
kept_after-moved by skip before [] = refl
kept_after-moved by skip before (item ∷ items) =
    ap (λ b. if b then kept_after skip (map (moved_item by) before) (map (moved_item by) items) else moved_item by item ∷ kept_after skip
    (map (moved_item by) before ++ moved_item by item ∷ []) (map (moved_item by) items)) (
    ap (is_killed skip (map (moved_item by) before)) (list_in-moved by item) ∙ is_killed-moved by skip before (list_in item)
    )
    ∙ chosen (is_killed skip before (list_in item)) (kept_after-moved by skip before items)
    (ap (λ l. kept_after skip l (map (moved_item by) items)) (sym (map-append (moved_item by) before (item ∷ [])))
    ∙ kept_after-moved by skip (before ++ item ∷ []) items) where
      chosen : (b : Bool) → kept_after skip (map (moved_item by) before) (map (moved_item by) items) ≡ map (moved_item by) (kept_after skip before items)
          → kept_after skip (map (moved_item by) before ++ moved_item by item ∷ []) (map (moved_item by) items)
          ≡ map (moved_item by) (kept_after skip (before ++ item ∷ []) items)
          → (if b then kept_after skip (map (moved_item by) before) (map (moved_item by) items) else moved_item by item ∷ kept_after skip
          (map (moved_item by) before ++ moved_item by item ∷ []) (map (moved_item by) items))
          ≡ map (moved_item by) (if b then kept_after skip before items else item ∷ kept_after skip (before ++ item ∷ []) items)
      chosen true gone stays = gone
      chosen false gone stays = ap (λ l. moved_item by item ∷ l) stays

-- ---- far items

-- An item that isn't far kills no list that starts from the position on.
abbrev pub IsHarmless : ℕ → Skip → Item → Type 0
IsHarmless from skip item = is_far from item ≡ false → (list : List Taken) → is_from from list ≡ true → item_kills skip list item ≡ false

module _ (from : ℕ) (skip : Skip) where
  -- far items alone decide on a list that starts there
  pub is_killed-far : (items : List Item) → Each (IsHarmless from skip) items → (list : List Taken) → is_from from list ≡ true
      → is_killed skip (filter (is_far from) items) list ≡ is_killed skip items list
  is_killed-far [] h list starts = refl
  is_killed-far (item ∷ items) h list starts = here (is_far from item) refl (is_killed-far items h.1 list starts) where
    here : (b : Bool) → is_far from item ≡ b → is_killed skip (filter (is_far from) items) list ≡ is_killed skip items list
        → is_killed skip (cond b (item ∷ filter (is_far from) items) (filter (is_far from) items)) list
        ≡ (item_kills skip list item || is_killed skip items list)
    here true is later = ap (λ b. item_kills skip list item || b) later
    here false is later = later ∙ sym (ap (λ b. b || is_killed skip items list) (h.0 is list starts))

  -- Far items are kept just as without the others.
  pub kept_after-far : (before items : List Item) → Each (IsHarmless from skip) before → Each (IsHarmless from skip) (kept_after skip before items)
      → filter (is_far from) (kept_after skip before items) ≡ kept_after skip (filter (is_far from) before) (filter (is_far from) items)
  kept_after-far before [] h k = refl
  kept_after-far before (item ∷ items) h k =
      decided (is_killed skip before (list_in item)) refl (is_far from item) refl k (kept_after-far before items h)
      (λ harmless rest. kept_after-far (before ++ item ∷ []) items (Each-append (IsHarmless from skip) before (item ∷ []) h (harmless, tt)) rest) where
        some : List Item
        some = filter (is_far from) before

        others : List Item
        others = filter (is_far from) items

        decided : (killed : Bool) → is_killed skip before (list_in item) ≡ killed → (far : Bool) → is_far from item ≡ far
            → Each (IsHarmless from skip) (if killed then kept_after skip before items else item ∷ kept_after skip (before ++ item ∷ []) items)
            → (Each (IsHarmless from skip) (kept_after skip before items) → filter (is_far from) (kept_after skip before items) ≡ kept_after skip some others)
            → (IsHarmless from skip item → Each (IsHarmless from skip) (kept_after skip (before ++ item ∷ []) items)
            → filter (is_far from) (kept_after skip (before ++ item ∷ []) items) ≡ kept_after skip (filter (is_far from) (before ++ item ∷ [])) others)
            → filter (is_far from) (if killed then kept_after skip before items else item ∷ kept_after skip (before ++ item ∷ []) items)
            ≡ kept_after skip some (cond far (item ∷ others) others)
        decided true is true far k gone stays =
            gone k ∙ sym (ap (λ b. if b then kept_after skip some others else item ∷ kept_after skip (some ++ item ∷ []) others)
            (is_killed-far before h (list_in item) far ∙ is))
        decided true is false far k gone stays = gone k
        decided false is true far k gone stays =
            ap (λ b. cond b (item ∷ filter (is_far from) (kept_after skip (before ++ item ∷ []) items))
            (filter (is_far from) (kept_after skip (before ++ item ∷ []) items))) far
            ∙ ap (λ l. item ∷ l) (stays k.0 k.1 ∙ ap (λ l. kept_after skip l others)
            (filter-append (is_far from) before (item ∷ []) ∙ ap (λ b. some ++ cond b (item ∷ []) []) far))
            ∙ sym (ap (λ b. if b then kept_after skip some others else item ∷ kept_after skip (some ++ item ∷ []) others)
            (is_killed-far before h (list_in item) far ∙ is))
        decided false is false far k gone stays =
            ap (λ b. cond b (item ∷ filter (is_far from) (kept_after skip (before ++ item ∷ []) items))
            (filter (is_far from) (kept_after skip (before ++ item ∷ []) items))) far
            ∙ stays k.0 k.1
            ∙ ap (λ l. kept_after skip l others) (filter-append (is_far from) before (item ∷ []) ∙ ap (λ b. some ++ cond b (item ∷ []) []) far
            ∙ append-nil some)
