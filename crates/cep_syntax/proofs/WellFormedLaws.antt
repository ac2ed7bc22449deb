-- Each file of the grammar is well formed, where the tokens have the form of their kinds and are at most 65,536.
use Rattle.std.proofs.Common.{◌≡◌, ℕ, suc, ◌+◌, ◌-◌, ◌*◌, ◌≤◌, Bool, true, false, cond, not, ◌&&◌, inl, inr, List, [], ◌∷◌, length, refl, ap, subst, arith, length-append}
use Rattle.std.specs.Prelude.{nat_le, codes, Option, Some, None}
use Rattle.std.specs.List.{list_all, sum_by}
use Rattle.std.proofs.lemmas.List.Sums.{sum_by-cons}
use Rattle.std.proofs.lemmas.Bool.Decides.{nat_tests}
use Rattle.cep_token.specs.Form as form
use Rattle.cep_reading.specs.declared.name.Name.{Name}
use Rattle.cep_reading.specs.Lexeme.{Lexeme}
use Rattle.cep_reading.specs.Terminal.{word, has_form, is_name, any_word}
use Rattle.cep_reading.specs.Reading.{Left}
use Rattle.cep_reading.specs.Rule.{Rule}
use Rattle.cep_reading.specs.Rule as rule
use Rattle.cep_reading.proofs.Starts.{and_true}
use Rattle.cep_reading.proofs.Gives.{Gives, Gives-pure, Gives-one, Gives-then, Gives-last, Gives-or, Gives-many, Gives-placed, Gives-maybe, both_true, Takes, Takes-one, Takes-then}
use Rattle.cep_expression.specs.declared.expr.SynExpr.{SynExpr}
use Rattle.cep_expression.specs.Grammar.{expression_within}
use Rattle.cep_syntax.specs.declared.file.FieldDecl.{FieldDecl}
use Rattle.cep_syntax.specs.declared.file.TypeDecl.{TypeDecl}
use Rattle.cep_syntax.specs.declared.file.OpenKind.{OpenKind}
use Rattle.cep_syntax.specs.declared.file.OpenKind.TheVariants.{Begin, Next, FollowedBy, FollowedByAny, NotNext, NotFollowedBy}
use Rattle.cep_syntax.specs.declared.file.ModKind.{ModKind}
use Rattle.cep_syntax.specs.declared.file.Opener.{Opener}
use Rattle.cep_syntax.specs.declared.file.SkipDecl.{SkipDecl}
use Rattle.cep_syntax.specs.declared.limit.Limits.{Limits}
use Rattle.cep_syntax.specs.declared.file.File.{File}
use Rattle.cep_syntax.specs.Terminal.{kind_of, opener}
use Rattle.cep_syntax.specs.Grammar as grammar
use Rattle.cep_syntax.specs.Grammar.{IsFile}
use Rattle.cep_syntax.specs.WellFormed.{is_number, is_formed, of_some, is_formed_type, is_formed_modifier, is_formed_opener, is_begin, begins_once, is_formed_skip, is_formed_select, IsWellFormed}
use Rattle.cep_syntax.proofs.Formed.{gives-any_word, gives-stage_name, gives-number, gives-expression}

-- ---- types

abbrev is_formed_field : FieldDecl → Bool
is_formed_field f = form.is_word f.name.text

gives-field : Gives grammar.field is_formed_field
unfolding grammar.field
gives-field =
    Gives-then _ _ (λ name. form.is_word name.text) is_formed_field gives-any_word
    (λ name e. Gives-last _ _ is_formed_field (λ kind. Gives-pure (record { name = name; kind = kind }) is_formed_field e))

gives-fields : Gives grammar.fields (list_all is_formed_field)
unfolding grammar.fields
gives-fields =
    Gives-or _ _ (list_all is_formed_field)
    (Gives-then _ _ is_formed_field (list_all is_formed_field) gives-field
    (λ first e. Gives-then _ _ (list_all is_formed_field) (list_all is_formed_field)
    (Gives-many _ is_formed_field (Gives-last _ _ is_formed_field (λ _. gives-field)))
    (λ more f. Gives-pure (first ∷ more) (list_all is_formed_field) (both_true (is_formed_field first) (list_all is_formed_field more) e f))))
    (Gives-pure [] (list_all is_formed_field) refl)

gives-declaration : Gives grammar.declaration is_formed_type
unfolding grammar.declaration
gives-declaration =
    Gives-last _ _ is_formed_type (λ _.
    Gives-then _ _ (λ name. form.is_word name.text) is_formed_type gives-any_word (λ name e.
    Gives-last _ _ is_formed_type (λ _.
    Gives-then _ _ (list_all is_formed_field) is_formed_type gives-fields (λ found f.
    Gives-last _ _ is_formed_type (λ _.
    Gives-last _ _ is_formed_type (λ _. Gives-pure (record { name = name; fields = found }) is_formed_type
    (both_true (form.is_word name.text) (list_all is_formed_field found) e f)))))))

-- ---- names and numbers

gives-named : Gives grammar.named (λ name. is_name name.text)
gives-named = Gives-last _ _ _ (λ _. Gives-then _ _ (λ name. is_name name.text) _ gives-stage_name (λ name e. Gives-last _ _ _ (λ _. Gives-pure name _ e)))

gives-of_name : Gives grammar.of_name (λ name. form.is_word name.text)
unfolding grammar.of_name
gives-of_name =
    Gives-last _ _ _ (λ _. Gives-last _ _ _ (λ _. Gives-then _ _ (λ name. form.is_word name.text) _ gives-any_word
    (λ name e. Gives-last _ _ _ (λ _. Gives-pure name _ e))))

gives-limited : (text : List ℕ) → Gives (grammar.limited text) (λ n. is_number n.value)
unfolding grammar.limited
gives-limited text =
    Gives-last _ _ _ (λ _. Gives-last _ _ _ (λ _. Gives-then _ _ (λ found. is_number found.1) _ (Gives-placed _ is_number gives-number)
    (λ found e. Gives-last _ _ _ (λ _. Gives-pure (grammar.placed_number found) (λ n. is_number n.value) e))))

-- ---- modifiers

gives-times : Gives grammar.times is_formed_modifier
unfolding grammar.times
gives-times =
    Gives-last _ _ is_formed_modifier (λ _. Gives-then _ _ is_number is_formed_modifier gives-number
    (λ from e. Gives-then _ _ (of_some is_number) is_formed_modifier (Gives-maybe _ is_number (Gives-last _ _ is_number (λ _. gives-number)))
    (λ to f. Gives-last _ _ is_formed_modifier (λ _. Gives-pure _ is_formed_modifier (both_true (is_number from) (of_some is_number to) e f)))))

gives-times_or_more : Gives grammar.times_or_more is_formed_modifier
unfolding grammar.times_or_more
gives-times_or_more =
    Gives-last _ _ is_formed_modifier (λ _. Gives-then _ _ is_number is_formed_modifier gives-number
    (λ from e. Gives-last _ _ is_formed_modifier (λ _. Gives-pure _ is_formed_modifier e)))

gives-bare : (what : ModKind) → is_formed_modifier what ≡ true → Gives (grammar.bare what) is_formed_modifier
unfolding grammar.bare
gives-bare what e = Gives-last _ _ is_formed_modifier (λ _. Gives-last _ _ is_formed_modifier (λ _. Gives-pure what is_formed_modifier e))

module _ (e : Rule SynExpr) (inner : Gives e is_formed) where
  gives-condition : Gives (grammar.condition e) is_formed
  unfolding grammar.condition
  gives-condition = Gives-last _ _ is_formed (λ _. Gives-then e _ is_formed is_formed inner (λ x h. Gives-last _ _ is_formed (λ _. Gives-pure x is_formed h)))

  gives-with_condition : (made : SynExpr → ModKind) → ((x : SynExpr) → is_formed x ≡ true → is_formed_modifier (made x) ≡ true)
      → Gives (rule.◌>>=◌ (grammar.condition e) (λ x. rule.pure (made x))) is_formed_modifier
  gives-with_condition made so = Gives-then _ _ is_formed is_formed_modifier gives-condition (λ x h. Gives-pure (made x) is_formed_modifier (so x h))

  gives-modifier_kind : Gives (grammar.modifier_kind e) is_formed_modifier
  gives-modifier_kind =
      Gives-or _ _ is_formed_modifier (Gives-last _ _ is_formed_modifier (λ _. gives-with_condition _ (λ x h. h)))
      (Gives-or _ _ is_formed_modifier (Gives-last _ _ is_formed_modifier (λ _. gives-with_condition _ (λ x h. h)))
      (Gives-or _ _ is_formed_modifier (Gives-last _ _ is_formed_modifier (λ _. gives-times))
      (Gives-or _ _ is_formed_modifier (Gives-last _ _ is_formed_modifier (λ _. gives-times_or_more))
      (Gives-or _ _ is_formed_modifier (Gives-last _ _ is_formed_modifier (λ _. gives-bare _ refl))
      (Gives-or _ _ is_formed_modifier (Gives-last _ _ is_formed_modifier (λ _. gives-bare _ refl))
      (Gives-or _ _ is_formed_modifier (Gives-last _ _ is_formed_modifier (λ _. gives-bare _ refl))
      (Gives-or _ _ is_formed_modifier (Gives-last _ _ is_formed_modifier (λ _. gives-bare _ refl))
      (Gives-last _ _ is_formed_modifier (λ _. gives-with_condition _ (λ x h. h))))))))))

  gives-modifier : Gives (grammar.modifier e) (λ m. is_formed_modifier m.what)
  unfolding grammar.modifier
  gives-modifier =
      Gives-then _ _ (λ found. is_formed_modifier found.1) (λ m. is_formed_modifier m.what) (Gives-placed _ is_formed_modifier gives-modifier_kind)
      (λ found h. Gives-pure (grammar.placed_modifier found) (λ m. is_formed_modifier m.what) h)

  -- a stage of which something is known from how it is opened
  gives-stage : (test : OpenKind → Bool) (how : OpenKind) (name : Name) → test how ≡ true → is_name name.text ≡ true
      → Gives (grammar.stage e how name) (λ o. is_formed_opener o && test o.how)
  gives-stage test how name t n =
      Gives-then _ _ (of_some (λ of. form.is_word of.text)) _
      (Gives-or _ _ (of_some (λ of. form.is_word of.text))
      (Gives-last _ _ (of_some (λ of. form.is_word of.text))
      (λ _. Gives-then _ _ (λ of. form.is_word of.text) (of_some (λ of. form.is_word of.text)) gives-of_name
      (λ of h. Gives-pure (Some of) (of_some (λ x. form.is_word x.text)) h)))
      (Gives-pure None (of_some (λ of. form.is_word of.text)) refl))
      (λ of h. Gives-then _ _ (list_all (λ m. is_formed_modifier m.what)) _
      (Gives-many _ (λ m. is_formed_modifier m.what) (Gives-last _ _ (λ m. is_formed_modifier m.what) (λ _. gives-modifier)))
      (λ mods g. Gives-pure (record { how = how; name = name; of = of; mods = mods }) (λ o. is_formed_opener o && test o.how)
      (both_true (is_formed_opener (record { how = how; name = name; of = of; mods = mods })) (test how)
      (both_true (is_name name.text) _ n (both_true (of_some (λ x. form.is_word x.text) of) (list_all (λ m. is_formed_modifier m.what) mods) h
      g)) t)))

opener_no_begin : (t : Lexeme) (how : OpenKind) → opener t ≡ Some how → not (is_begin how) ≡ true
unfolding opener
opener_no_begin t how e = cases (word (codes "next") t) (word (codes "followedBy") t) (word (codes "followedByAny") t) (word (codes "notNext") t) (word (codes "notFollowedBy") t) e where
  some_is : {A : Type 0} {x y : A} → Some x ≡ Some y → x ≡ y
  some_is h = cc

  is_other : (x : OpenKind) → not (is_begin x) ≡ true → Some x ≡ Some how → not (is_begin how) ≡ true
  is_other x f h = subst (λ y. not (is_begin y) ≡ true) (some_is h) f

  cases : (a b c d f : Bool)
      → cond a (Some Next) (cond b (Some FollowedBy) (cond c (Some FollowedByAny) (cond d (Some NotNext) (cond f (Some NotFollowedBy) None))))
      ≡ Some how → not (is_begin how) ≡ true
  cases true b c d f h = is_other Next refl h
  cases false true c d f h = is_other FollowedBy refl h
  cases false false true d f h = is_other FollowedByAny refl h
  cases false false false true f h = is_other NotNext refl h
  cases false false false false true h = is_other NotFollowedBy refl h
  cases false false false false false h = cc

abbrev OpenTest : OpenKind × Name → Bool
OpenTest found = is_name found.1.text && not (is_begin found.0)

gives-opener_named : Gives grammar.opener_named OpenTest
unfolding grammar.opener_named
gives-opener_named =
    Gives-then _ _ (λ how. not (is_begin how)) OpenTest (Gives-one opener (λ how. not (is_begin how)) (λ t how formed e. opener_no_begin t how e))
    (λ how b. Gives-last _ _ OpenTest (λ _. Gives-then _ _ (λ name. is_name name.text) OpenTest gives-stage_name
    (λ name n. Gives-last _ _ OpenTest (λ _. Gives-pure (how, name) OpenTest (both_true (is_name name.text) (not (is_begin how)) n b)))))

abbrev OpenersTest : List Opener → Bool
OpenersTest openers = begins_once openers && list_all is_formed_opener openers

-- both tests at once, or one after the other
split_tests : (openers : List Opener) → list_all (λ o. is_formed_opener o && not (is_begin o.how)) openers ≡ true
    → (list_all is_formed_opener openers ≡ true) × (list_all (λ o. not (is_begin o.how)) openers ≡ true)
split_tests [] e = (refl, refl)
split_tests (o ∷ openers) e =
    let k = and_true (is_formed_opener o && not (is_begin o.how)) (list_all (λ x. is_formed_opener x && not (is_begin x.how)) openers) e in
    let here = and_true (is_formed_opener o) (not (is_begin o.how)) k.0 in
    let later = split_tests openers k.1 in (
      both_true (is_formed_opener o) (list_all is_formed_opener openers) here.0 later.0,
      both_true (not (is_begin o.how))
          (list_all (λ x. not (is_begin x.how)) openers) here.1 later.1,
    )

openers_form : (first : Opener) (more : List Opener) → is_formed_opener first && is_begin first.how ≡ true
    → list_all (λ o. is_formed_opener o && not (is_begin o.how)) more ≡ true → OpenersTest (first ∷ more) ≡ true
openers_form first more e f =
    let k = and_true (is_formed_opener first) (is_begin first.how) e in
    let later = split_tests more f in
    both_true (begins_once (first ∷ more)) (list_all is_formed_opener (first ∷ more))
    (both_true (is_begin first.how) (list_all (λ o. not (is_begin o.how)) more) k.1 later.1)
    (both_true (is_formed_opener first) (list_all is_formed_opener more) k.0 later.0)

abbrev LimitsTest : Limits → Bool
LimitsTest bounds = of_some (λ n. is_number n.value) bounds.within && of_some (λ n. is_number n.value) bounds.within_gap

abbrev PatternTest : List Opener × Limits → Bool
PatternTest found = OpenersTest found.0 && LimitsTest found.1

gives-limits : Gives grammar.limits LimitsTest
gives-limits =
    Gives-then _ _ (of_some (λ x. is_number x.value)) LimitsTest
    (Gives-maybe _ (λ x. is_number x.value) (Gives-last _ _ (λ x. is_number x.value) (λ _. gives-limited (codes "within"))))
    (λ within f. Gives-then _ _ (of_some (λ x. is_number x.value)) LimitsTest
    (Gives-maybe _ (λ x. is_number x.value) (Gives-last _ _ (λ x. is_number x.value) (λ _. gives-limited (codes "withinGap"))))
    (λ gap g. Gives-pure (record { within = within; within_gap = gap }) LimitsTest
    (both_true (of_some (λ x. is_number x.value) within) (of_some (λ x. is_number x.value) gap) f g)))

abbrev bounds_of : File → Limits
bounds_of f = record { within = f.within; within_gap = f.within_gap }

abbrev FileTest : File → Bool
FileTest f = list_all is_formed_type f.types && (PatternTest (f.openers, bounds_of f) && (of_some is_formed_skip f.skip && of_some is_formed_select f.select))

abbrev file_of : List TypeDecl → List Opener × Limits → Option SkipDecl → Option (List SynExpr) → File
file_of types found after shown = record {
  types = types;
  openers = found.0;
  within = found.1.within;
  within_gap = found.1.within_gap;
  skip = after;
  select = shown;
}

gives-skip : Gives grammar.skip is_formed_skip
unfolding grammar.skip
gives-skip =
    Gives-last _ _ is_formed_skip (λ _. Gives-then _ _ is_formed_skip is_formed_skip gives-skip_kind
    (λ what e. Gives-last _ _ is_formed_skip (λ _. Gives-pure what is_formed_skip e))) where
      gives-skip_kind : Gives grammar.skip_kind is_formed_skip
      gives-skip_kind =
          Gives-or _ _ is_formed_skip (Gives-last _ _ is_formed_skip (λ _. Gives-pure _ is_formed_skip refl))
          (Gives-or _ _ is_formed_skip (Gives-last _ _ is_formed_skip (λ _. Gives-pure _ is_formed_skip refl))
          (Gives-or _ _ is_formed_skip (Gives-last _ _ is_formed_skip (λ _. Gives-pure _ is_formed_skip refl))
          (Gives-or _ _ is_formed_skip (Gives-last _ _ is_formed_skip
          (λ _. Gives-then _ _ (λ name. is_name name.text) is_formed_skip gives-named (λ name e. Gives-pure _ is_formed_skip e)))
          (Gives-last _ _ is_formed_skip (λ _. Gives-then _ _ (λ name. is_name name.text) is_formed_skip gives-named (λ name e. Gives-pure _ is_formed_skip e))))))

some_shown : (first : SynExpr) (more : List SynExpr) → nat_le 1 (length (first ∷ more)) ≡ true
some_shown first more = at_least (length more) where
  at_least : (n : ℕ) → nat_le 1 (suc n) ≡ true
  at_least n = grind (arith, nat_tests)

module _ (e : Rule SynExpr) (inner : Gives e is_formed) where
  gives-next_stage : Gives (grammar.next_stage e) (λ o. is_formed_opener o && not (is_begin o.how))
  gives-next_stage =
      Gives-last _ _ _ (λ _. Gives-then _ _ OpenTest _ gives-opener_named
      (λ found h. let k = and_true (is_name found.1.text) (not (is_begin found.0)) h in
      gives-stage e inner (λ how. not (is_begin how)) found.0 found.1 k.1 k.0))

  gives-stages : (name : Name) → is_name name.text ≡ true → Gives (grammar.stages e name) OpenersTest
  gives-stages name n =
      Gives-then _ _ (λ o. is_formed_opener o && is_begin o.how) OpenersTest (gives-stage e inner is_begin Begin name refl n)
      (λ first f. Gives-then _ _ (list_all (λ o. is_formed_opener o && not (is_begin o.how))) OpenersTest
      (Gives-many _ (λ o. is_formed_opener o && not (is_begin o.how)) gives-next_stage)
      (λ more g. Gives-pure (first ∷ more) OpenersTest (openers_form first more f g)))

  gives-pattern : Gives (grammar.pattern e) PatternTest
  unfolding grammar.pattern
  gives-pattern =
      Gives-last _ _ PatternTest (λ _. Gives-last _ _ PatternTest
      (λ _. Gives-last _ _ PatternTest (λ _. Gives-then _ _ (λ name. is_name name.text) PatternTest gives-stage_name
      (λ name n. Gives-last _ _ PatternTest (λ _. Gives-then _ _ OpenersTest PatternTest (gives-stages name n)
      (λ openers f. Gives-then _ _ LimitsTest PatternTest gives-limits
      (λ bounds g. Gives-last _ _ PatternTest (λ _. Gives-pure (openers, bounds) PatternTest
      (both_true (OpenersTest openers) (LimitsTest bounds) f g)))))))))

  gives-select : Gives (grammar.select e) is_formed_select
  unfolding grammar.select
  gives-select =
      Gives-last _ _ is_formed_select (λ _. Gives-then e _ is_formed is_formed_select inner
      (λ first f. Gives-then _ _ (list_all is_formed) is_formed_select (Gives-many _ is_formed (Gives-last _ _ is_formed (λ _. inner)))
      (λ more g. Gives-last _ _ is_formed_select (λ _. Gives-pure (first ∷ more) is_formed_select
      (both_true (nat_le 1 (length (first ∷ more))) (list_all is_formed (first ∷ more)) (some_shown first more)
      (both_true (is_formed first) (list_all is_formed more) f g))))))

  gives-file : Gives (grammar.file e) FileTest
  unfolding grammar.file
  gives-file =
      Gives-then _ _ (list_all is_formed_type) FileTest (Gives-many _ is_formed_type gives-declaration)
      (λ types f. Gives-then _ _ PatternTest FileTest gives-pattern
      (λ found g. Gives-then _ _ (of_some is_formed_skip) FileTest (Gives-maybe _ is_formed_skip gives-skip)
      (λ after h. Gives-then _ _ (of_some is_formed_select) FileTest (Gives-maybe _ is_formed_select gives-select)
      (λ shown k. Gives-pure (file_of types found after shown) FileTest
      (both_true (list_all is_formed_type types) _ f
      (both_true (PatternTest found) _ g (both_true (of_some is_formed_skip after) (of_some is_formed_select shown) h k)))))))

-- ---- how many types and fields

Takes-none : {A : Type 0} (r : Rule A) → Takes r (λ _. 0)
Takes-none r = record { least = λ used a h. omega arith }

Takes-many : {A : Type 0} (r : Rule A) (c : A → ℕ) → Takes r c → Takes (rule.many r) (sum_by c)
Takes-many {A} r c item = record { least = all } where
  all : (used : Left) (xs : List A) → rule.many r used xs → sum_by c xs ≤ length used
  all used [] h = omega arith
  all used (x ∷ xs) h =
      let one = item.least h.0 x h.3 in
      let later = all h.1 xs h.4 in
      let sum = sum_by-cons c x xs in
      omega (arith, one, later, sum, ap length h.2, length-append h.0 h.1)

sum_of_twos : {A : Type 0} (xs : List A) → sum_by (λ _. 2) xs ≡ 2 * length xs
sum_of_twos [] = refl
sum_of_twos {A} (x ∷ xs) = let sum = sum_by-cons {X = A} (λ _. 2) x xs in let later = sum_of_twos xs in omega (arith, sum, later)

takes-field : Takes grammar.field (λ _. 2)
unfolding grammar.field
takes-field =
    Takes-then _ _ (λ _. 1) (λ _ _. 1) (λ _. 2) (Takes-one any_word)
    (λ name. Takes-then _ _ (λ _. 1) (λ _ _. 0) (λ _. 1) (Takes-one kind_of) (λ kind. Takes-none _) (λ a b used h. omega arith))
    (λ a b used h. omega arith)

takes-next_field : Takes (rule.◌>>◌ (rule.sign (codes ",")) grammar.field) (λ _. 2)
takes-next_field = Takes-then _ _ (λ _. 1) (λ _ _. 2) (λ _. 2) (Takes-one _) (λ _. takes-field) (λ a b used h. omega arith)

Takes-or : {A : Type 0} (r s : Rule A) (c : A → ℕ) → Takes r c → Takes s c → Takes (rule.◌or◌ r s) c
Takes-or {A} r s c one other = record { least = cases } where
  cases : (used : Left) (a : A) → rule.◌or◌ r s used a → c a ≤ length used
  cases used a (inl h) = one.least used a h
  cases used a (inr h) = other.least used a h

no_field : Takes (rule.pure []) (λ (fields : List FieldDecl). 2 * length fields)
no_field = record { least = λ used fields h. let none = ap length h.1 in omega (arith, none) }

takes-fields : Takes grammar.fields (λ fields. 2 * length fields)
unfolding grammar.fields
takes-fields =
    Takes-or _ _ _
    (Takes-then _ _ (λ _. 2) (λ _ fields. 2 * length fields - 2) (λ fields. 2 * length fields) takes-field
    (λ first. Takes-then _ _ (sum_by (λ _. 2)) (λ _ _. 0) (λ fields. 2 * length fields - 2) (Takes-many _ (λ _. 2) takes-next_field) (λ more. Takes-none _)
    (λ more fields used h. let twos = sum_of_twos more in let len = ap length h.1 in omega (arith, twos, len)))
    (λ first fields used h. omega arith))
    no_field

abbrev weight : TypeDecl → ℕ
weight d = 2 + 2 * length d.fields

takes-declaration : Takes grammar.declaration weight
unfolding grammar.declaration
takes-declaration =
    Takes-then _ _ (λ _. 1) (λ _ d. 1 + 2 * length d.fields) weight (Takes-one _)
    (λ _. Takes-then _ _ (λ _. 1) (λ _ d. 2 * length d.fields) (λ d. 1 + 2 * length d.fields) (Takes-one any_word)
    (λ name. Takes-then _ _ (λ _. 1) (λ _ d. 2 * length d.fields) (λ d. 2 * length d.fields) (Takes-one _)
    (λ _. Takes-then _ _ (λ fields. 2 * length fields) (λ _ _. 0) (λ d. 2 * length d.fields) takes-fields (λ found. Takes-none _)
    (λ found d used h. let is = ap (λ x. length x.fields) h.second.second.1 in omega (arith, is)))
    (λ a d used h. omega arith))
    (λ a d used h. omega arith))
    (λ a d used h. omega arith)

few_by_weight : (types : List TypeDecl) → (2 * length types ≤ sum_by weight types) × (2 * sum_by (λ d. length d.fields) types ≤ sum_by weight types)
few_by_weight [] = (omega arith, omega arith)
few_by_weight (d ∷ types) =
    let later = few_by_weight types in
    let one = later.0 in
    let two = later.1 in
    let a = sum_by-cons weight d types in
    let b = sum_by-cons (λ x. length x.fields) d types in
    (omega (arith, one, a), omega (arith, two, a, b))

types_take : (e : Rule SynExpr) (used : Left) (f : File) → grammar.file e used f → sum_by weight f.types ≤ length used
unfolding grammar.file
types_take e used f h =
    let front = (Takes-many _ weight takes-declaration).least h.front h.value h.first in
    let is : f.types ≡ h.value = ap (λ x. x.types) h.second.second.second.second.1 in
    let sum = ap (sum_by weight) is in
    omega (arith, front, sum, ap length h.is, length-append h.front h.back)

pub is_well_formed : (used : Left) (f : File) → IsFile used f → list_all has_form used ≡ true → length used ≤ 65536 → IsWellFormed f
is_well_formed used f h formed short =
    let all = (gives-file (expression_within h.0) (gives-expression h.0)).gives used f formed h.1 in
    let a = and_true (list_all is_formed_type f.types) _ all in
    let b = and_true (PatternTest (f.openers, bounds_of f)) _ a.1 in
    let pattern = and_true (OpenersTest f.openers) _ b.0 in
    let openers = and_true (begins_once f.openers) _ pattern.0 in
    let bounds = and_true (of_some (λ n. is_number n.value) f.within) _ pattern.1 in
    let tail = and_true (of_some is_formed_skip f.skip) _ b.1 in
    let few = few_by_weight f.types in
    let one = few.0 in
    let two = few.1 in
    let all_types = types_take (expression_within h.0) used f h.1 in
    record {
      types = a.0;
      few_types = omega (arith, one, all_types);
      few_fields = omega (arith, two, all_types);
      begins = openers.0;
      openers = openers.1;
      limit = bounds.0;
      gap = bounds.1;
      skips = tail.0;
      shows = tail.1;
    }
