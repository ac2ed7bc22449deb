-- Which list an item shows, and where a rising list ends.
use Rattle.std.proofs.Common.{◌≡◌, refl, sym, ◌∙◌, ap, subst, ℕ, ◌+◌, ◌<◌, arith, Bool, true, false, List, [], ◌∷◌, map, ◌⊎◌, inl, inr, nat_lt}
use Rattle.std.specs.Prelude.{◌||◌, ◌==◌, Contains, Option, Some, None}
use Rattle.std.specs.List.{AllByRecursion as Each, list_any, last_or}
use Rattle.std.specs.Option.{option_map_or}
use Rattle.std.specs.Ordering.{is_eq}
use Rattle.std.specs.Cmp.{Equal-is}
use Rattle.std.proofs.lemmas.Bool.{or_cases, or_left, or_right, ltb-true, lt-ltb, eqb-true}
use Rattle.std.proofs.lemmas.Cmp.{tied_itself}
use Rattle.cep_event.specs.declared.event.Event.{Event}
use Rattle.cep_plan.specs.declared.item.Item.TheVariants.{Match, Timeout}
use Rattle.cep_plan.specs.Entry.{Entry, taken_of, entries_in, last_entry}
use Rattle.cep_plan.specs.Order.{list_cmp}
use Rattle.cep_plan.specs.History.{ends_at}
use Rattle.cep_plan.proofs.OrderLaws.{list_cmp-total, list_cmp-same}
use Rattle.cep_plan.proofs.RisingLaws.{IsRising, IsRisingList}
use Rattle.cep_plan.proofs.SortedLaws.{Contains-cases, Contains-first, Contains-next}
use Rattle.live_laws.proofs.MemberLaws.{Contains-none}
use Rattle.judged_rows.specs.Place.{is_match_of}
use Rattle.judged_laws.specs.Found.{ends_below}

pub same_bools : (a b : Bool) → (a ≡ true → b ≡ true) → (b ≡ true → a ≡ true) → a ≡ b
same_bools true b f g = sym (f refl)
same_bools false true f g = g refl
same_bools false false f g = refl

-- ---- the list of an item

entries_back : (events : List Event) (list : List Entry) → entries_in (taken_of events list) ≡ list
entries_back events [] = refl
entries_back events (e ∷ list) = ap (λ l. e ∷ l) (entries_back events list)

module _ (events : List Event) (list : List Entry) where
  shows : (l : List Entry) → is_match_of list (Match (taken_of events l)) ≡ true → l ≡ list
  shows l h = sym (list_cmp-same list l ((Equal-is (list_cmp list l)).0 (ap (λ x. is_eq (list_cmp list x)) (sym (entries_back events l)) ∙ h)))

  shown : is_match_of list (Match (taken_of events list)) ≡ true
  shown = ap (λ x. is_eq (list_cmp list x)) (entries_back events list) ∙ ap is_eq (tied_itself list_cmp-total list)

  pub shown-listed : (ls : List (List Entry)) → list_any (is_match_of list) (map (λ l. Match (taken_of events l)) ls) ≡ true → Contains ls list
  shown-listed [] h = let wrong : false ≡ true = h in absurd cc
  shown-listed (l ∷ ls) h = split (or_cases _ _ h) (shown-listed ls) where
    split : (is_match_of list (Match (taken_of events l)) ≡ true) ⊎ (list_any (is_match_of list) (map (λ l. Match (taken_of events l)) ls) ≡ true)
        → (list_any (is_match_of list) (map (λ l. Match (taken_of events l)) ls) ≡ true → Contains ls list) → Contains (l ∷ ls) list
    split (inl is) later = subst (λ z. Contains (l ∷ ls) z) (shows l is) (Contains-first l ls)
    split (inr is) later = Contains-next l list ls (later is)

  pub listed-shown : (ls : List (List Entry)) → Contains ls list → list_any (is_match_of list) (map (λ l. Match (taken_of events l)) ls) ≡ true
  listed-shown [] q = absurd (Contains-none list q)
  listed-shown (l ∷ ls) q = split (Contains-cases l list ls q) (listed-shown ls) where
    split : (l ≡ list) ⊎ Contains ls list → (Contains ls list → list_any (is_match_of list) (map (λ l. Match (taken_of events l)) ls) ≡ true)
        → (is_match_of list (Match (taken_of events l)) || list_any (is_match_of list) (map (λ l. Match (taken_of events l)) ls)) ≡ true
    split (inl is) later = or_left _ _ (ap (λ z. is_match_of list (Match (taken_of events z))) is ∙ shown)
    split (inr r) later = or_right _ _ (later r)

  -- a timeout is no match
  pub none_timed_out : (ls : List (List Entry)) → list_any (is_match_of list) (map (λ l. Timeout (taken_of events l)) ls) ≡ false
  none_timed_out [] = refl
  none_timed_out (l ∷ ls) = none_timed_out ls

-- ---- where a list ends

from_first : (stages from to count : ℕ) (e : Entry) (later : List Entry) → IsRising stages from to (e ∷ later)
    → option_map_or (λ (last : Entry). nat_lt last.position count) (last_or (Some e) later) false ≡ true
    → (e.position < count) × Each (λ e. e.position < count) later
from_first stages from to count e [] h k = (ltb-true e.position count k, tt)
from_first stages from to count e (next ∷ later) h k =
    let rest = from_first stages (e.position + 1) to count next later h.3 k in (omega (arith, rest.0, h.3.1), (rest.0, rest.1))

-- a rising list that ends below a position has all its entries there
pub all_below : (stages to count : ℕ) (list : List Entry) → IsRisingList stages 0 to list → ends_below count list ≡ true
    → Each (λ e. e.position < count) list
all_below stages to count [] h k = absurd h
all_below stages to count (e ∷ later) h k = from_first stages 0 to count e later h k

last_below : (count : ℕ) (e : Entry) (later : List Entry) → e.position < count → Each (λ e. e.position < count) later
    → option_map_or (λ (last : Entry). nat_lt last.position count) (last_or (Some e) later) false ≡ true
last_below count e [] h k = lt-ltb e.position count h
last_below count e (next ∷ later) h k = last_below count next later k.0 k.1

pub below_all : (stages to count : ℕ) (list : List Entry) → IsRisingList stages 0 to list → Each (λ e. e.position < count) list
    → ends_below count list ≡ true
below_all stages to count [] h k = absurd h
below_all stages to count (e ∷ later) h k = last_below count e later k.0 k.1

-- a list that ends at a position ends below the next one
pub at-below : (count : ℕ) (list : List Entry) → ends_at count list ≡ true → ends_below (count + 1) list ≡ true
at-below count list h = after (last_entry list) h where
  after : (last : Option Entry) → option_map_or (λ l. l.position == count) last false ≡ true
      → option_map_or (λ l. nat_lt l.position (count + 1)) last false ≡ true
  after None h = h
  after (Some last) h = let same : last.position ≡ count = eqb-true last.position count h in lt-ltb last.position (count + 1) (omega (arith, same))
