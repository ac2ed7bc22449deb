-- The lists that dues tell one after another: they are the open ones that pass and of which something is due, each once.
use Rattle.std.proofs.Common.{◌≡◌, refl, sym, ◌∙◌, ap, Bool, true, false, not, ◌&&◌, ◌||◌, List, [], ◌∷◌, ◌⊎◌, inl, inr}
use Rattle.std.specs.Prelude.{◌==◌, Contains, filter, Option, Some, None}
use Rattle.std.specs.List.{list_any, AllByRecursion as Each}
use Rattle.std.specs.Option.{option_map_or}
use Rattle.std.proofs.lemmas.Bool.{and_parts, and_from, or_left, or_right}
use Rattle.std.proofs.lemmas.List.Elements.{Contains-append_left, Contains-append_right, Contains-append_cases}
use Rattle.cep_plan.specs.declared.item.Due.{Due}
use Rattle.cep_plan.specs.declared.item.Due.TheVariants.{Start, Last}
use Rattle.cep_plan.specs.Entry.{Entry, last_entry}
use Rattle.cep_plan.proofs.FilteredLaws.{Contains-filter, Contains-from_filter}
use Rattle.live_laws.specs.Starts.{AllApart, Scope, ends_in, is_open, is_due_of, without_due}
use Rattle.live_laws.proofs.MemberLaws.{Contains-none, Each-from_contains, AllApart-append, AllApart-filter}
use Rattle.due_laws.specs.Due.{told_along}

start_bits : (a d l : Bool) → ((a && not d) && l) ≡ ((a && l) && not d)
start_bits false d l = refl
start_bits true true true = refl
start_bits true true false = refl
start_bits true false true = refl
start_bits true false false = refl

last_bits : (a l d : Bool) → (a && (l && not d)) ≡ ((a && l) && not d)
last_bits false l d = refl
last_bits true l d = refl

none_bits : (a : Bool) → (a && true) ≡ ((a && true) && true)
none_bits true = refl
none_bits false = refl

-- once the due is over, the lists that were open are open but its own
pub is_open-without : (scope : Scope) (due : Due) (list : List Entry) → is_open (without_due scope due) list ≡ (is_open scope list && not (is_due_of due list))
is_open-without scope (Start p) [] = refl
is_open-without scope (Start p) (first ∷ later) =
    start_bits (scope.starts first.position) (first.position == p) (ends_in scope.lasts (first ∷ later))
is_open-without scope (Last p) [] = refl
is_open-without scope (Last p) (first ∷ later) = by_last (scope.starts first.position) (last_entry (first ∷ later)) where
  by_last : (a : Bool) (o : Option Entry) → (a && option_map_or (λ last. scope.lasts last.position && not (last.position == p)) o true)
      ≡ ((a && option_map_or (λ last. scope.lasts last.position) o true) && not (option_map_or (λ last. last.position == p) o false))
  by_last a None = none_bits a
  by_last a (Some last) = last_bits a (scope.lasts last.position) (last.position == p)

-- what a due tells: the open lists of its own that pass, of all lists
abbrev pub tells : List (List Entry) → (List Entry → Bool) → Scope → Due → List (List Entry)
tells all passes scope due = filter (λ list. is_open scope list && is_due_of due list && passes list) all

pub record IsTold (passes : List Entry → Bool) (all : List (List Entry)) (scope : Scope) (dues : List Due) (list : List Entry) : Type 0 where
  pub listed : Contains all list
  pub passes_it : passes list ≡ true
  pub opens : is_open scope list ≡ true
  pub some_due : list_any (λ due. is_due_of due list) dues ≡ true

module _ (all : List (List Entry)) (passes : List Entry → Bool) where
  -- what is told at once
  told_now : (scope : Scope) (due : Due) (list : List Entry) → Contains (tells all passes scope due) list
      → Contains all list × (is_open scope list ≡ true) × (is_due_of due list ≡ true) × (passes list ≡ true)
  told_now scope due list q =
      let found = Contains-from_filter (λ l. is_open scope l && is_due_of due l && passes l) all list q in
      let both = and_parts (is_open scope list && is_due_of due list) (passes list) found.1 in
      let parts = and_parts (is_open scope list) (is_due_of due list) both.0 in
      (found.0, parts.0, parts.1, both.1)

  pub told_sound : (scope : Scope) (dues : List Due) (list : List Entry) → Contains (told_along (tells all passes) scope dues) list
      → IsTold passes all scope dues list
  told_sound scope [] list q = absurd (Contains-none list q)
  told_sound scope (due ∷ dues) list q =
      split (Contains-append_cases (tells all passes scope due) (told_along (tells all passes) (without_due scope due) dues) list q)
      (told_sound (without_due scope due) dues list) where
        split : Contains (tells all passes scope due) list ⊎ Contains (told_along (tells all passes) (without_due scope due) dues) list
            → (Contains (told_along (tells all passes) (without_due scope due) dues) list → IsTold passes all (without_due scope due) dues list)
            → IsTold passes all scope (due ∷ dues) list
        split (inl here) later =
            let known = told_now scope due list here in
            record {
              listed = known.0;
              passes_it = known.3;
              opens = known.1;
              some_due = or_left (is_due_of due list) (list_any (λ d. is_due_of d list) dues) known.2;
            }
        split (inr there) later =
            let known = later there in
            record {
              listed = known.listed;
              passes_it = known.passes_it;
              opens = (and_parts (is_open scope list) (not (is_due_of due list)) (sym (is_open-without scope due list) ∙ known.opens)).0;
              some_due = or_right (is_due_of due list) (list_any (λ d. is_due_of d list) dues) known.some_due;
            }

  pub told_complete : (scope : Scope) (dues : List Due) (list : List Entry) → IsTold passes all scope dues list
      → Contains (told_along (tells all passes) scope dues) list
  told_complete scope [] list is = let no : false ≡ true = is.some_due in absurd cc
  told_complete scope (due ∷ dues) list is = by_test (is_due_of due list) refl (told_complete (without_due scope due) dues list) where
    rest : List (List Entry)
    rest = told_along (tells all passes) (without_due scope due) dues

    by_test : (b : Bool) → is_due_of due list ≡ b
        → (IsTold passes all (without_due scope due) dues list → Contains (told_along (tells all passes) (without_due scope due) dues) list)
        → Contains (told_along (tells all passes) scope (due ∷ dues)) list
    by_test true here later =
        Contains-append_left (tells all passes scope due) (told_along (tells all passes) (without_due scope due) dues) list
        (Contains-filter (λ l. is_open scope l && is_due_of due l && passes l) all list is.listed
        (and_from _ _ (and_from _ _ is.opens here) is.passes_it))
    by_test false other later =
        Contains-append_right (tells all passes scope due) (told_along (tells all passes) (without_due scope due) dues) list
        (later (record {
          listed = is.listed;
          passes_it = is.passes_it;
          opens = is_open-without scope due list ∙ and_from _ _ is.opens (ap not other);
          some_due = sym (ap (λ b. b || list_any (λ d. is_due_of d list) dues) other) ∙ is.some_due;
        }))

  -- no list is told twice
  pub told_apart : AllApart all → (scope : Scope) (dues : List Due) → AllApart (told_along (tells all passes) scope dues)
  told_apart apart scope [] = tt
  told_apart apart scope (due ∷ dues) =
      AllApart-append (tells all passes scope due) (told_along (tells all passes) (without_due scope due) dues)
      (AllApart-filter (λ l. is_open scope l && is_due_of due l && passes l) all apart)
      (told_apart apart (without_due scope due) dues)
      (Each-from_contains (λ a. Each (λ b. a ≡ b → ⊥) (told_along (tells all passes) (without_due scope due) dues)) (tells all passes scope due)
      (λ a p. Each-from_contains (λ b. a ≡ b → ⊥) (told_along (tells all passes) (without_due scope due) dues) (λ b q same. clash a b p q same))) where
        clash : (a b : List Entry) → Contains (tells all passes scope due) a → Contains (told_along (tells all passes) (without_due scope due) dues) b
            → a ≡ b → ⊥
        clash a b p q same =
            let here = (told_now scope due a p).2 in
            let known = told_sound (without_due scope due) dues b q in
            let other = (and_parts (is_open scope b) (not (is_due_of due b)) (sym (is_open-without scope due b) ∙ known.opens)).1 in
            let no : false ≡ true = sym (ap not (sym (ap (is_due_of due) same) ∙ here)) ∙ other in cc
