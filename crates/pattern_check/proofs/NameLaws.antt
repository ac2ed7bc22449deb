-- The names of the plan of a file without a fault differ.
use Rattle.std.proofs.Common.{◌≡◌, ℕ, suc, ◌+◌, ◌<◌, Bool, true, false, cond, not, ◌||◌, List, [], ◌∷◌, ◌++◌, length, get_or, map, take, refl, sym, ap, subst, ◌∙◌, arith}
use Rattle.std.specs.Prelude.{None}
use Rattle.std.specs.Str.{bytes_eq}
use Rattle.std.specs.List.{list_any, filter}
use Rattle.std.proofs.lemmas.Slice.Eq.{bytes_eq-Decides}
use Rattle.std.proofs.lemmas.List.Folds.{list_any-append}
use Rattle.cep_event.specs.declared.event.Field.{Field}
use Rattle.cep_syntax.specs.declared.file.TypeDecl.{TypeDecl}
use Rattle.cep_syntax.specs.declared.file.Opener.{Opener}
use Rattle.cep_syntax.specs.declared.file.File.{File}
use Rattle.pattern_rules.specs.First.{first_from, place_if}
use Rattle.pattern_rules.specs.Bounds.{is_negated}
use Rattle.pattern_rules.specs.Declarations.{twice_type}
use Rattle.pattern_rules.specs.Stages.{twice_stage}
use Rattle.pattern_rules.specs.Rules.{fault_with}
use Rattle.pattern_check.specs.Numbers.{is_positive}
use Rattle.pattern_check.specs.Plan.{types_of, stage_of, stages_of, negation_of, negations_of, plan_with}
use Rattle.pattern_check.specs.Names.{is_among, are_distinct, HasDistinctNames}
use Rattle.pattern_check.proofs.KeptRules.{kept}
use Rattle.pattern_check.proofs.ListLaws.{both, left_of, right_of}
use Rattle.pattern_check.proofs.BoundLaws.{not_broken}
use Rattle.pattern_check.proofs.FromLaws.{from_none_at}
use Rattle.pattern_check.proofs.AfterLaws.{first_false, second_false, none_of}

-- ---- no name stands again, from a judge that looks at those before

pub neither : (a b : Bool) → a ≡ false → b ≡ false → (a || b) ≡ false
neither a b p q = ap (λ x. x || b) p ∙ q

pub same_text : (a b : List ℕ) → bytes_eq a b ≡ bytes_eq b a
same_text a b = both_ways (bytes_eq a b) (bytes_eq b a)
    (λ e. (bytes_eq-Decides b a).1 (sym ((bytes_eq-Decides a b).0 e)))
    (λ e. (bytes_eq-Decides a b).1 (sym ((bytes_eq-Decides b a).0 e)))
  where
    both_ways : (x y : Bool) → (x ≡ true → y ≡ true) → (y ≡ true → x ≡ true) → x ≡ y
    both_ways true y f g = sym (f refl)
    both_ways false true f g = g refl
    both_ways false false f g = refl

module _ {A : Type 0} (name : A → List ℕ) where
  -- no name is that of one before it
  pub record AreApart (xs : List A) : Type 0 where
    pub apart : (i j : ℕ) (d : A) → i < j → j < length xs → bytes_eq (name (get_or xs i d)) (name (get_or xs j d)) ≡ false

  pub apart_of : (place : A → ℕ) (xs : List A)
      → first_from (λ k x. place_if (list_any (λ y. bytes_eq (name y) (name x)) (take k xs)) (place x)) 0 xs ≡ None → AreApart xs
  apart_of place xs e = record {
    apart = λ i j d before within.
        (let x : A = get_or xs j d in
        let kept_there = from_none_at (λ k y. place_if (list_any (λ z. bytes_eq (name z) (name y)) (take k xs)) (place y)) 0 xs j d within e in
        let zero_so : 0 + j ≡ j = omega arith in
        let none = subst (λ (n : ℕ). list_any (λ z. bytes_eq (name z) (name x)) (take n xs) ≡ false) zero_so (not_broken (list_any (λ z. bytes_eq (name z) (name x)) (take (0 + j) xs)) (place x) kept_there) in
        none_of (λ z. bytes_eq (name z) (name x)) xs j i d none before (omega arith));
  }

  later_apart : (x : A) (xs : List A) → AreApart (x ∷ xs) → AreApart xs
  later_apart x xs h = record { apart = λ i j d before within. h.apart (suc i) (suc j) d (omega arith) (omega arith) }

  none_among : (text : List ℕ) (xs : List A) (d : A) → ((j : ℕ) → j < length xs → bytes_eq text (name (get_or xs j d)) ≡ false)
      → is_among (map name xs) text ≡ false
  none_among text [] d each = refl
  none_among text (x ∷ xs) d each =
      neither (bytes_eq text (name x)) (is_among (map name xs) text) (each 0 (omega arith)) (none_among text xs d (λ j h. each (suc j) (omega arith)))

  pub distinct_of : (xs : List A) → AreApart xs → are_distinct (map name xs) ≡ true
  distinct_of [] h = refl
  distinct_of (x ∷ xs) h =
      both (not (is_among (map name xs) (name x))) (are_distinct (map name xs))
      (ap not (none_among (name x) xs x (λ j within. h.apart 0 (suc j) x (omega arith) (omega arith))))
      (distinct_of xs (later_apart x xs h))

-- ---- stages and negations are the openers in another order

not_among : (b : Bool) → not b ≡ true → b ≡ false
not_among true e = absurd (cc)
not_among false e = refl

one_more : (name text : List ℕ) (b : Bool) (rest all : List (List ℕ)) → (is_among all text ≡ false → is_among rest text ≡ false)
    → is_among (name ∷ all) text ≡ false → is_among (cond b (name ∷ rest) rest) text ≡ false
one_more name text true rest all later e =
    neither (bytes_eq text name) (is_among rest text) (first_false (bytes_eq text name) (is_among all text) e)
    (later (second_false (bytes_eq text name) (is_among all text) e))
one_more name text false rest all later e = later (second_false (bytes_eq text name) (is_among all text) e)

-- a name in the middle that is not among the others
in_middle : (front back : List (List ℕ)) (name : List ℕ) → is_among front name ≡ false → is_among back name ≡ false
    → are_distinct (front ++ back) ≡ true → are_distinct (front ++ name ∷ back) ≡ true
in_middle [] back name a b e = both (not (is_among back name)) (are_distinct back) (ap not b) e
in_middle (x ∷ front) back name a b e =
    let others = sym (list_any-append (bytes_eq x) front back) ∙ not_among (is_among (front ++ back) x) (left_of (not (is_among (front ++ back) x)) (are_distinct (front ++ back)) e) in
    let none = list_any-append (bytes_eq x) front (name ∷ back)
    ∙ neither (is_among front x) (bytes_eq x name || is_among back x) (first_false (is_among front x) (is_among back x) others)
    (neither (bytes_eq x name) (is_among back x) (same_text x name ∙ first_false (bytes_eq name x) (is_among front name) a)
    (second_false (is_among front x) (is_among back x) others)) in
    both (not (is_among (front ++ name ∷ back) x)) (are_distinct (front ++ name ∷ back)) (ap not none)
    (in_middle front back name (second_false (bytes_eq name x) (is_among front name) a) b
    (right_of (not (is_among (front ++ back) x)) (are_distinct (front ++ back)) e))

module _ {B C : Type 0} (f : Opener → B) (g : Opener → C) (stage_name : B → List ℕ) (negation_name : C → List ℕ)
    (named_f : (o : Opener) → stage_name (f o) ≡ o.name.text) (named_g : (o : Opener) → negation_name (g o) ≡ o.name.text) where
  abbrev stage_names : List Opener → List (List ℕ)
  stage_names os = map stage_name (map f (filter is_positive os))

  abbrev negation_names : List Opener → List (List ℕ)
  negation_names os = map negation_name (map g (filter (λ o. is_negated o.how) os))

  put : (b : Bool) (o : Opener) (text : List ℕ) {D : Type 0} (h : Opener → D) (of : D → List ℕ) → of (h o) ≡ o.name.text
      → (rest all : List (List ℕ)) (os : List Opener) → map of (map h os) ≡ rest
      → (is_among all text ≡ false → is_among rest text ≡ false) → is_among (o.name.text ∷ all) text ≡ false
      → is_among (map of (map h (cond b (o ∷ os) os))) text ≡ false
  put b o text h of same rest all os is later e =
      ap (λ names. is_among names text) (kept_name b) ∙ one_more o.name.text text b rest all later e
    where
      kept_name : (b : Bool) → map of (map h (cond b (o ∷ os) os)) ≡ cond b (o.name.text ∷ rest) rest
      kept_name true = (λ i. same i ∷ is i)
      kept_name false = is

  not_stage : (text : List ℕ) (os : List Opener) → is_among (map (λ o. o.name.text) os) text ≡ false → is_among (stage_names os) text ≡ false
  not_stage text [] e = refl
  not_stage text (o ∷ os) e =
      put (is_positive o) o text f stage_name (named_f o) (stage_names os) (map (λ x. x.name.text) os) (filter is_positive os) refl
      (not_stage text os) e

  not_negation : (text : List ℕ) (os : List Opener) → is_among (map (λ o. o.name.text) os) text ≡ false → is_among (negation_names os) text ≡ false
  not_negation text [] e = refl
  not_negation text (o ∷ os) e =
      put (is_negated o.how) o text g negation_name (named_g o) (negation_names os) (map (λ x. x.name.text) os) (filter (λ x. is_negated x.how) os)
      refl (not_negation text os) e

  placed_one : (b : Bool) (o : Opener) (os : List Opener) → is_among (map (λ x. x.name.text) os) o.name.text ≡ false
      → are_distinct (stage_names os ++ negation_names os) ≡ true
      → are_distinct (map stage_name (map f (cond (not b) (o ∷ filter is_positive os) (filter is_positive os)))
      ++ map negation_name (map g (cond b (o ∷ filter (λ x. is_negated x.how) os) (filter (λ x. is_negated x.how) os)))) ≡ true
  placed_one true o os new later =
      let whole = in_middle (stage_names os) (negation_names os) o.name.text (not_stage o.name.text os new) (not_negation o.name.text os new) later in
      subst (λ (text : List ℕ). are_distinct (stage_names os ++ text ∷ negation_names os) ≡ true) (sym (named_g o)) whole
  placed_one false o os new later =
      let none = list_any-append (bytes_eq o.name.text) (stage_names os) (negation_names os) ∙ neither (is_among (stage_names os) o.name.text) (is_among (negation_names os) o.name.text) (not_stage o.name.text os new) (not_negation o.name.text os new) in
      let whole = both (not (is_among (stage_names os ++ negation_names os) o.name.text)) (are_distinct (stage_names os ++ negation_names os)) (ap not none) later in
      subst (λ (text : List ℕ). are_distinct (text ∷ stage_names os ++ negation_names os) ≡ true) (sym (named_f o)) whole

  pub names_differ : (os : List Opener) → are_distinct (map (λ o. o.name.text) os) ≡ true → are_distinct (stage_names os ++ negation_names os) ≡ true
  names_differ [] e = refl
  names_differ (o ∷ os) e =
      placed_one (is_negated o.how) o os (not_among (is_among (map (λ x. x.name.text) os) o.name.text)
      (left_of (not (is_among (map (λ x. x.name.text) os) o.name.text)) (are_distinct (map (λ x. x.name.text) os)) e))
      (names_differ os (right_of (not (is_among (map (λ x. x.name.text) os) o.name.text)) (are_distinct (map (λ x. x.name.text) os)) e))

-- ---- the plan

module _ (fields : List Field) (file : File) (sound : fault_with fields file ≡ None) where
  stage_named : (o : Opener) → (stage_of fields file o).name ≡ o.name.text
  unfolding stage_of
  stage_named o = refl

  negation_named : (o : Opener) → (negation_of fields file o).name ≡ o.name.text
  unfolding negation_of
  negation_named o = refl

  types_apart : AreApart (λ d. d.name.text) file.types
  unfolding twice_type
  types_apart = apart_of (λ d. d.name.text) (λ d. d.name.place) file.types (kept fields file sound 0 (omega arith))

  openers_apart : AreApart (λ o. o.name.text) file.openers
  unfolding twice_stage
  openers_apart = apart_of (λ o. o.name.text) (λ o. o.name.place) file.openers (kept fields file sound 3 (omega arith))

  type_names : (types : List TypeDecl) → map (λ t. t.name) (types_of fields types) ≡ map (λ d. d.name.text) types
  type_names [] = refl
  type_names (d ∷ types) = ap (λ names. d.name.text ∷ names) (type_names types)

  pub plan_named : HasDistinctNames (plan_with fields file)
  unfolding stages_of negations_of
  plan_named = record {
    types = ap are_distinct (type_names file.types) ∙ distinct_of (λ d. d.name.text) file.types types_apart;
    stages =
        names_differ (stage_of fields file) (negation_of fields file) (λ s. s.name) (λ n. n.name) stage_named negation_named file.openers
        (distinct_of (λ o. o.name.text) file.openers openers_apart);
  }
