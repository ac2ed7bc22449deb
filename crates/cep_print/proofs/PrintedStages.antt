-- The tokens of printed stages, and of the printed pattern.
use Rattle.std.proofs.Common.{◌≡◌, ℕ, suc, ◌+◌, ◌≤◌, true, not, List, [], ◌∷◌, ◌++◌, map, refl, sym, ◌∙◌, ap, subst, arith, append_assoc}
use Rattle.std.specs.Prelude.{Option, Some, None, option_map, codes, flat_map, decimal}
use Rattle.std.specs.List.{list_all}
use Rattle.std.proofs.lemmas.Bool.Decides.{nat_tests}
use Rattle.cep_token.specs.declared.token.TokenKind.TheVariants as kind
use Rattle.cep_token.specs.declared.token.TheConstants.{GREATEST_NUMBER}
use Rattle.cep_token.specs.Form.{is_word}
use Rattle.cep_reading.specs.declared.name.Name.{Name}
use Rattle.cep_reading.specs.Terminal.{any_word, stage_name, is_name, number}
use Rattle.cep_reading.specs.Rule.{Rule}
use Rattle.cep_reading.specs.Rule as rule
use Rattle.cep_expression.specs.declared.expr.SynExpr.{SynExpr}
use Rattle.cep_expression.specs.Grammar.{expression_within}
use Rattle.cep_syntax.specs.declared.file.OpenKind.{OpenKind}
use Rattle.cep_syntax.specs.declared.file.OpenKind.TheVariants.{Begin, Next, FollowedBy, FollowedByAny, NotNext, NotFollowedBy}
use Rattle.cep_syntax.specs.declared.file.Join.TheVariants.{Both, Either}
use Rattle.cep_syntax.specs.declared.file.ModKind.{ModKind}
use Rattle.cep_syntax.specs.declared.file.ModKind.TheVariants.{Filter, Until, Times, TimesOrMore, OneOrMore, Optional, Consecutive, AllowCombinations}
use Rattle.cep_syntax.specs.declared.file.Modifier.{Modifier}
use Rattle.cep_syntax.specs.declared.file.Opener.{Opener}
use Rattle.cep_syntax.specs.declared.file.PlacedNumber.{PlacedNumber}
use Rattle.cep_syntax.specs.declared.limit.Limits.{Limits}
use Rattle.cep_syntax.specs.Terminal.{opener}
use Rattle.cep_syntax.specs.Grammar as grammar
use Rattle.cep_syntax.specs.WellFormed.{is_number, is_formed, of_some, is_formed_modifier, is_formed_opener, is_begin, begins_once}
use Rattle.cep_print.specs.Literal.{Text, literal}
use Rattle.cep_print.specs.Expression.{chained, expression_text}
use Rattle.cep_print.specs.File.{opened_text, of_text, second_text, modifier_text, modifiers_text, stage_text, stage_part, limit_text, limits_text, pattern_text}
use Rattle.cep_print.specs.Same.{unplaced_name, unplaced}
use Rattle.cep_print.specs.SameFile.{unplaced_kind, unplaced_modifier, unplaced_stage, unplaced_limit}
use Rattle.cep_print.proofs.Scanned.{front, soft, hard, hard_is_soft, and_parts, Mark}
use Rattle.cep_print.proofs.Marks.{is_token-word, word_begins}
use Rattle.cep_print.proofs.Prints.{Prints, Printed, Prints-then, Prints-made, Prints-left, Prints-right, Prints-pure, Prints-placed, Prints-one, Prints-more, Prints-no_more, Prints-blank_before, soft_stays, sign_then, sign_last, word_then, Prints-any_word, Prints-stage_name, Prints-number}
use Rattle.cep_print.proofs.PrintedNodes.{height, expression_printed}
use Rattle.cep_print.proofs.PrintedTypes.{line_end}

-- ---- how many nodes there are

abbrev pub kind_height : ModKind → ℕ
kind_height (Filter join e) = height e.node
kind_height (Until e) = height e.node
kind_height _ = 0

abbrev pub mods_height : List Modifier → ℕ
mods_height [] = 0
mods_height (m ∷ mods) = kind_height m.what + mods_height mods

abbrev pub stages_height : List Opener → ℕ
stages_height [] = 0
stages_height (o ∷ openers) = mods_height o.mods + stages_height openers

pub first_below : (a b m : ℕ) → a + b ≤ m → a ≤ m
first_below a b m h = omega arith

pub later_below : (a b m : ℕ) → a + b ≤ m → b ≤ m
later_below a b m h = omega arith

pub at_most : (n : ℕ) → is_number n ≡ true → n ≤ GREATEST_NUMBER
at_most n e = grind (arith, nat_tests)

-- ---- modifiers

module _ (n : ℕ) where
  abbrev e : Rule SynExpr
  e = expression_within (suc n)

  -- what stands behind the word of a condition
  condition_shown : (make : SynExpr → ModKind) (x : SynExpr) → is_formed x ≡ true → height x.node ≤ n
      → ((y : SynExpr) → unplaced y ≡ unplaced x → unplaced_kind (make y) ≡ unplaced_kind (make x))
      → Printed (rule.◌>>=◌ (grammar.condition e) (λ y. rule.pure (make y))) unplaced_kind (unplaced_kind (make x)) soft (40 ∷ (expression_text x ++ codes ")"))
  unfolding grammar.condition
  condition_shown make x formed h so =
      let p = expression_printed x formed n h in (
        _,
        Prints-made (grammar.condition e) make unplaced unplaced_kind (unplaced x) (unplaced_kind (make x)) soft _ _
            (sign_then 40 _ unplaced (unplaced x) soft (expression_text x ++ codes ")") _ refl refl
            (Prints-then e _ unplaced unplaced x (unplaced x) (unplaced x) hard soft (expression_text x) (codes ")") p.0 _ refl p.1 (λ y same. sign_last 41 y unplaced (unplaced x) refl refl same) (λ rest may. refl)))
            so,
      )

  second_shown : (to : Option ℕ) → of_some is_number to ≡ true → Printed (rule.maybe (rule.◌>>◌ (rule.sign (codes ",")) (rule.one number))) (λ x. x) to hard (second_text to)
  second_shown None f = (_, Prints-right _ (rule.pure None) (λ x. x) None hard [] _ (Prints-pure None (λ x. x) hard hard_is_soft))
  second_shown (Some k) f = (
    _,
    Prints-left _ (rule.pure None) (λ x. x) (Some k) hard (second_text (Some k)) _
        (Prints-made (rule.◌>>◌ (rule.sign (codes ",")) (rule.one number)) Some (λ x. x) (λ x. x) k (Some k) hard (second_text (Some k)) _
        (sign_then 44 (rule.one number) (λ x. x) k hard (32 ∷ decimal k) _ refl refl
        (Prints-blank_before (rule.one number) (λ x. x) k hard (decimal k) _ (Prints-number k (at_most k f)))) (λ y is. ap Some is)),
  )

  second_begins : (to : Option ℕ) (rest : Text) → hard (front (second_text to ++ (codes ")" ++ rest))) ≡ true
  second_begins None rest = refl
  second_begins (Some k) rest = refl

  times_shown : (from : ℕ) (to : Option ℕ) → is_number from ≡ true → of_some is_number to ≡ true → Printed grammar.times unplaced_kind (Times from to) soft (40 ∷ (decimal from ++ (second_text to ++ codes ")")))
  unfolding grammar.times
  times_shown from to f g =
      let q = second_shown to g in (
        _,
        sign_then 40 _ unplaced_kind (Times from to) soft (decimal from ++ (second_text to ++ codes ")")) _ refl refl
            (Prints-then (rule.one number) _ (λ x. x) unplaced_kind from from (Times from to) hard soft (decimal from) (second_text to ++ codes ")") _ _ refl (Prints-number from (at_most from f))
            (λ a is. Prints-then (rule.maybe (rule.◌>>◌ (rule.sign (codes ",")) (rule.one number))) _ (λ x. x) unplaced_kind to to (Times from to) hard soft (second_text to) (codes ")") q.0 _ refl q.1
            (λ b same. sign_last 41 (Times a b) unplaced_kind (Times from to) refl refl (λ i. Times (is i) (same i))) (λ rest may. refl))
            (λ rest may. subst (λ l. hard (front l) ≡ true) (sym (append_assoc (second_text to) (codes ")") rest)) (second_begins to rest))),
      )

  times_or_more_shown : (from : ℕ) → is_number from ≡ true → Printed grammar.times_or_more unplaced_kind (TimesOrMore from) soft (40 ∷ (decimal from ++ codes ")"))
  unfolding grammar.times_or_more
  times_or_more_shown from f = (
    _,
    sign_then 40 _ unplaced_kind (TimesOrMore from) soft (decimal from ++ codes ")") _ refl refl
        (Prints-then (rule.one number) _ (λ x. x) unplaced_kind from from (TimesOrMore from) hard soft (decimal from) (codes ")") _ _ refl (Prints-number from (at_most from f))
        (λ a is. sign_last 41 (TimesOrMore a) unplaced_kind (TimesOrMore from) refl refl (ap TimesOrMore is)) (λ rest may. refl)),
  )

  bare_shown : (what : ModKind) → Printed (grammar.bare what) unplaced_kind (unplaced_kind what) soft (codes "()")
  unfolding grammar.bare
  bare_shown what = (_, sign_then 40 _ unplaced_kind (unplaced_kind what) soft (codes ")") _ refl refl (sign_last 41 what unplaced_kind (unplaced_kind what) refl refl refl))

  -- the word of a modifier, and what stands behind it
  worded : (word : Text) (r : Rule ModKind) (goal : ModKind) (w : Text) → is_word word ≡ true → ((rest : Text) → hard (front (w ++ rest)) ≡ true)
      → Printed r unplaced_kind goal soft w → Printed (rule.◌>>◌ (rule.keyword word) r) unplaced_kind goal soft (word ++ w)
  worded word r goal w e begins (marks, p) = (_, word_then word r unplaced_kind goal soft w marks e (λ rest may. begins rest) p)

  here : (r s : Rule ModKind) (goal : ModKind) (z : Text) → Printed r unplaced_kind goal soft z → Printed (rule.◌or◌ r s) unplaced_kind goal soft z
  here r s goal z (marks, p) = (marks, Prints-left r s unplaced_kind goal soft z marks p)

  later : (r s : Rule ModKind) (goal : ModKind) (z : Text) → Printed s unplaced_kind goal soft z → Printed (rule.◌or◌ r s) unplaced_kind goal soft z
  later r s goal z (marks, p) = (marks, Prints-right r s unplaced_kind goal soft z marks p)

  abbrev without_dot : Text → Text
  without_dot [] = []
  without_dot (b ∷ z) = z

  kind_shown : (what : ModKind) → is_formed_modifier what ≡ true → kind_height what ≤ n
      → Printed (grammar.modifier_kind e) unplaced_kind (unplaced_kind what) soft (without_dot (modifier_text what))
  kind_shown (Filter Both x) f h = here _ _ _ _ (worded (codes "where") _ _ _ refl (λ rest. refl) (condition_shown (Filter Both) x f h (λ y is. ap (Filter Both) is)))
  kind_shown (Filter Either x) f h = later _ _ _ _ (here _ _ _ _ (worded (codes "or") _ _ _ refl (λ rest. refl) (condition_shown (Filter Either) x f h (λ y is. ap (Filter Either) is))))
  kind_shown (Times from to) f h = let k = and_parts (is_number from) (of_some is_number to) f in later _ _ _ _ (later _ _ _ _ (here _ _ _ _ (worded (codes "times") _ _ _ refl (λ rest. refl) (times_shown from to k.0 k.1))))
  kind_shown (TimesOrMore from) f h = later _ _ _ _ (later _ _ _ _ (later _ _ _ _ (here _ _ _ _ (worded (codes "timesOrMore") _ _ _ refl (λ rest. refl) (times_or_more_shown from f)))))
  kind_shown OneOrMore f h = later _ _ _ _ (later _ _ _ _ (later _ _ _ _ (later _ _ _ _ (here _ _ _ _ (worded (codes "oneOrMore") _ _ _ refl (λ rest. refl) (bare_shown OneOrMore))))))
  kind_shown Optional f h = later _ _ _ _ (later _ _ _ _ (later _ _ _ _ (later _ _ _ _ (later _ _ _ _ (here _ _ _ _ (worded (codes "optional") _ _ _ refl (λ rest. refl) (bare_shown Optional)))))))
  kind_shown Consecutive f h = later _ _ _ _ (later _ _ _ _ (later _ _ _ _ (later _ _ _ _ (later _ _ _ _ (later _ _ _ _ (here _ _ _ _ (worded (codes "consecutive") _ _ _ refl (λ rest. refl) (bare_shown Consecutive))))))))
  kind_shown AllowCombinations f h = later _ _ _ _ (later _ _ _ _ (later _ _ _ _ (later _ _ _ _ (later _ _ _ _ (later _ _ _ _ (later _ _ _ _ (here _ _ _ _ (worded (codes "allowCombinations") _ _ _ refl (λ rest. refl) (bare_shown AllowCombinations)))))))))
  kind_shown (Until x) f h = later _ _ _ _ (later _ _ _ _ (later _ _ _ _ (later _ _ _ _ (later _ _ _ _ (later _ _ _ _ (later _ _ _ _ (later _ _ _ _ (worded (codes "until") _ _ _ refl (λ rest. refl) (condition_shown Until x f h (λ y is. ap Until is))))))))))

  dotted : (what : ModKind) → 46 ∷ without_dot (modifier_text what) ≡ modifier_text what
  dotted (Filter Both x) = refl
  dotted (Filter Either x) = refl
  dotted (Until x) = refl
  dotted (Times from to) = refl
  dotted (TimesOrMore from) = refl
  dotted OneOrMore = refl
  dotted Optional = refl
  dotted Consecutive = refl
  dotted AllowCombinations = refl

  abbrev dot_modifier : Rule Modifier
  dot_modifier = rule.◌>>◌ (rule.sign (codes ".")) (grammar.modifier e)

  modifier_shown : (m : Modifier) → is_formed_modifier m.what ≡ true → kind_height m.what ≤ n
      → Printed dot_modifier unplaced_modifier (unplaced_modifier m) soft (modifier_text m.what)
  unfolding grammar.modifier
  modifier_shown m f h =
      let p = kind_shown m.what f h in
      let w = without_dot (modifier_text m.what) in
      subst (λ l. Printed dot_modifier unplaced_modifier (unplaced_modifier m) soft l) (dotted m.what) (
        _,
        sign_then 46 (grammar.modifier e) unplaced_modifier (unplaced_modifier m) soft w p.0 refl refl
            (Prints-made (rule.placed (grammar.modifier_kind e)) grammar.placed_modifier (λ found. unplaced_kind found.1) unplaced_modifier
            (unplaced_kind m.what) (unplaced_modifier m) soft w p.0
            (Prints-placed (grammar.modifier_kind e) unplaced_kind (unplaced_kind m.what) soft w p.0 p.1)
            (λ found same i. record { what = same i; place = 0 })),
      )

  modifiers_shown : (mods : List Modifier) → list_all (λ m. is_formed_modifier m.what) mods ≡ true → mods_height mods ≤ n
      → Printed (rule.many dot_modifier) (map unplaced_modifier) (map unplaced_modifier mods) soft (modifiers_text mods)
  modifiers_shown [] f h = (_, Prints-no_more dot_modifier unplaced_modifier soft soft_stays)
  modifiers_shown (m ∷ mods) f h =
      let k = and_parts (is_formed_modifier m.what) (list_all (λ x. is_formed_modifier x.what) mods) f in
      let p = modifier_shown m k.0 (first_below (kind_height m.what) (mods_height mods) n h) in
      let more = modifiers_shown mods k.1 (later_below (kind_height m.what) (mods_height mods) n h) in (
        _,
        Prints-more dot_modifier unplaced_modifier (unplaced_modifier m) (map unplaced_modifier mods) soft soft (modifier_text m.what)
            (modifiers_text mods) p.0 more.0 p.1 more.1 more.1.begins,
      )

  -- ---- stages

  -- `of`, where a stage has it
  abbrev of_rule : Rule (Option Name)
  of_rule = rule.◌or◌ (rule.◌>>◌ (rule.sign (codes ".")) (rule.◌>>=◌ grammar.of_name (λ name. rule.pure (Some name)))) (rule.pure None)

  of_name_shown : (name : Name) → is_word name.text ≡ true → Printed grammar.of_name unplaced_name (unplaced_name name) soft (codes "of(" ++ (name.text ++ codes ")"))
  unfolding grammar.of_name
  of_name_shown name f = (
    _,
    word_then (codes "of") _ unplaced_name (unplaced_name name) soft (40 ∷ (name.text ++ codes ")")) _ refl (λ rest may. refl)
        (sign_then 40 _ unplaced_name (unplaced_name name) soft (name.text ++ codes ")") _ refl refl
        (Prints-then (rule.one any_word) _ unplaced_name unplaced_name name (unplaced_name name) (unplaced_name name) hard soft name.text (codes ")") _ _ refl (Prints-any_word name f)
        (λ y is. sign_last 41 y unplaced_name (unplaced_name name) refl refl is) (λ rest may. refl))),
  )

  of_shown : (of : Option Name) → of_some (λ name. is_word name.text) of ≡ true
      → Printed of_rule (option_map unplaced_name) (option_map unplaced_name of) soft (of_text of)
  of_shown None f = (_, Prints-right _ (rule.pure None) (option_map unplaced_name) None soft [] _ (Prints-pure None (option_map unplaced_name) soft soft_stays))
  of_shown (Some name) f =
      let p = of_name_shown name f in
      let goal = Some (unplaced_name name) in (
        _,
        Prints-left _ (rule.pure None) (option_map unplaced_name) goal soft (of_text (Some name)) _
            (sign_then 46 _ (option_map unplaced_name) goal soft (codes "of(" ++ (name.text ++ codes ")")) p.0 refl refl
            (Prints-made grammar.of_name Some unplaced_name (option_map unplaced_name) (unplaced_name name) goal soft _ p.0 p.1 (λ y is. ap Some is))),
      )

  -- a stage behind its name, however it was opened
  record StageShown (o : Opener) : Type 0 where
    marks : List Mark
    shown : (how : OpenKind) (name : Name) → how ≡ o.how → unplaced_name name ≡ unplaced_name o.name
        → Prints (grammar.stage e how name) unplaced_stage (unplaced_stage o) soft (of_text o.of ++ modifiers_text o.mods) marks

  stage_shown : (o : Opener) → of_some (λ name. is_word name.text) o.of ≡ true → list_all (λ m. is_formed_modifier m.what) o.mods ≡ true
      → mods_height o.mods ≤ n → StageShown o
  stage_shown o f g h =
      let p = of_shown o.of f in
      let q = modifiers_shown o.mods g h in
      record {
        marks = p.0 ++ q.0;
        shown = λ how name same is.
            Prints-then of_rule _ (option_map unplaced_name) unplaced_stage o.of (option_map unplaced_name o.of) (unplaced_stage o) soft soft
            (of_text o.of) (modifiers_text o.mods) p.0 q.0 refl p.1
            (λ of x. Prints-made (rule.many dot_modifier) _ (map unplaced_modifier) unplaced_stage (map unplaced_modifier o.mods) (unplaced_stage o)
            soft (modifiers_text o.mods) q.0 q.1 (λ mods y i. record { how = same i; name = is i; of = x i; mods = y i }))
            q.1.begins;
      }

  abbrev see_opened : OpenKind × Name → OpenKind × Name
  see_opened opened = (opened.0, unplaced_name opened.1)

  abbrev pair : OpenKind → Name → OpenKind × Name
  pair how name = (how, name)

  opened_by : (word : Text) (how : OpenKind) (name : Name) → is_word word ≡ true
      → ((place : ℕ) → opener (record { kind = kind.Word; text = word; place = place }) ≡ Some how) → is_name name.text ≡ true
      → Printed grammar.opener_named see_opened (see_opened (pair how name)) soft (word ++ (40 ∷ (literal name.text ++ codes ")")))
  unfolding grammar.opener_named
  opened_by word how name f is g = (
    _,
    Prints-then (rule.one opener) _ (λ x. x) see_opened how how (see_opened (pair how name)) hard soft word (40 ∷ (literal name.text ++ codes ")")) _ _ refl
        (Prints-one opener (λ x. x) how kind.Word word hard hard_is_soft (is_token-word word f) (λ rest may. word_begins word rest f)
        (λ place. (how, is place, refl)))
        (λ a same. sign_then 40 _ see_opened (see_opened (pair how name)) soft (literal name.text ++ codes ")") _ refl refl
        (Prints-then (rule.one stage_name) _ unplaced_name see_opened name (unplaced_name name) (see_opened (pair how name)) soft soft (literal name.text) (codes ")") _ _ refl (Prints-stage_name name g)
        (λ b so. sign_last 41 (pair a b) see_opened (see_opened (pair how name)) refl refl (λ i. pair (same i) (so i))) (λ rest may. refl)))
        (λ rest may. refl),
  )

  opener_shown : (how : OpenKind) (name : Name) → not (is_begin how) ≡ true → is_name name.text ≡ true
      → Printed grammar.opener_named see_opened (see_opened (pair how name)) soft (opened_text how name.text)
  unfolding opener
  opener_shown Begin name f g = cc
  opener_shown Next name f g = opened_by (codes "next") Next name refl (λ place. refl) g
  opener_shown FollowedBy name f g = opened_by (codes "followedBy") FollowedBy name refl (λ place. refl) g
  opener_shown FollowedByAny name f g = opened_by (codes "followedByAny") FollowedByAny name refl (λ place. refl) g
  opener_shown NotNext name f g = opened_by (codes "notNext") NotNext name refl (λ place. refl) g
  opener_shown NotFollowedBy name f g = opened_by (codes "notFollowedBy") NotFollowedBy name refl (λ place. refl) g

  formed_stage : (o : Opener) → is_formed_opener o ≡ true → (is_name o.name.text ≡ true) × (of_some (λ name. is_word name.text) o.of ≡ true)
      × (list_all (λ m. is_formed_modifier m.what) o.mods ≡ true)
  formed_stage o f =
      let a = and_parts (is_name o.name.text) _ f in
      let b = and_parts (of_some (λ name. is_word name.text) o.of) (list_all (λ m. is_formed_modifier m.what) o.mods) a.1 in
      (a.0, b.0, b.1)

  next_stage_shown : (o : Opener) → is_formed_opener o ≡ true → not (is_begin o.how) ≡ true → mods_height o.mods ≤ n → Printed (grammar.next_stage e) unplaced_stage (unplaced_stage o) soft (codes "." ++ stage_text o)
  next_stage_shown o f g h =
      let k = formed_stage o f in
      let p = opener_shown o.how o.name g k.0 in
      let s = stage_shown o k.1 k.2 h in
      let w = of_text o.of ++ modifiers_text o.mods in (
        _,
        sign_then 46 _ unplaced_stage (unplaced_stage o) soft (stage_text o) _ refl refl
            (Prints-then grammar.opener_named (λ opened. grammar.stage e opened.0 opened.1) see_opened unplaced_stage (pair o.how o.name)
            (see_opened (pair o.how o.name)) (unplaced_stage o) soft soft (opened_text o.how o.name.text) w p.0 s.marks refl p.1
            (λ y is. s.shown y.0 y.1 (ap (λ x. x.0) is) (ap (λ x. x.1) is))
            (s.shown o.how o.name refl refl).begins),
      )

  abbrev with_sign : Text × Text → Text
  with_sign part = part.0 ++ part.1

  more_stages : (openers : List Opener) → list_all is_formed_opener openers ≡ true → list_all (λ o. not (is_begin o.how)) openers ≡ true
      → stages_height openers ≤ n
      → Printed (rule.many (grammar.next_stage e)) (map unplaced_stage) (map unplaced_stage openers) soft (flat_map with_sign (map stage_part openers))
  more_stages [] f g h = (_, Prints-no_more (grammar.next_stage e) unplaced_stage soft soft_stays)
  more_stages (o ∷ openers) f g h =
      let a = and_parts (is_formed_opener o) (list_all is_formed_opener openers) f in
      let b = and_parts (not (is_begin o.how)) (list_all (λ x. not (is_begin x.how)) openers) g in
      let p = next_stage_shown o a.0 b.0 (first_below (mods_height o.mods) (stages_height openers) n h) in
      let more = more_stages openers a.1 b.1 (later_below (mods_height o.mods) (stages_height openers) n h) in
      (_, Prints-more (grammar.next_stage e) unplaced_stage (unplaced_stage o) (map unplaced_stage openers) soft soft (codes "." ++ stage_text o) (flat_map with_sign (map stage_part openers)) p.0 more.0 p.1 more.1 more.1.begins)

  -- ---- the pattern

  abbrev limit_rule : Text → Rule (Option PlacedNumber)
  limit_rule word = rule.maybe (rule.◌>>◌ (rule.sign (codes ".")) (grammar.limited word))

  abbrev opening_of : Text → Text
  opening_of word = 46 ∷ (word ++ 40 ∷ [])

  limit_shown : (word : Text) → is_word word ≡ true → (limit : Option PlacedNumber) → of_some (λ x. is_number x.value) limit ≡ true
      → Printed (limit_rule word) (option_map unplaced_limit) (option_map unplaced_limit limit) soft (limit_text (opening_of word) limit)
  unfolding grammar.limited
  limit_shown word w None f =
      (_, Prints-right _ (rule.pure None) (option_map unplaced_limit) None soft [] _ (Prints-pure None (option_map unplaced_limit) soft soft_stays))
  limit_shown word w (Some x) f =
      let goal = unplaced_limit x in
      let behind = 40 ∷ (decimal x.value ++ codes ")") in
      let text : 46 ∷ (word ++ behind) ≡ limit_text (opening_of word) (Some x)
      = ap (λ l. 46 ∷ l) (sym (append_assoc word (40 ∷ []) (decimal x.value ++ codes ")"))) in
      subst (λ l. Printed (limit_rule word) (option_map unplaced_limit) (Some goal) soft l) text (
        _,
        Prints-left _ (rule.pure None) (option_map unplaced_limit) (Some goal) soft (46 ∷ (word ++ behind)) _
            (Prints-made _ Some unplaced_limit (option_map unplaced_limit) goal (Some goal) soft (46 ∷ (word ++ behind)) _
            (sign_then 46 _ unplaced_limit goal soft (word ++ behind) _ refl refl
            (word_then word _ unplaced_limit goal soft behind _ w (λ rest may. refl)
            (sign_then 40 _ unplaced_limit goal soft (decimal x.value ++ codes ")") _ refl refl
            (Prints-then (rule.placed (rule.one number)) _ (λ found. found.1) unplaced_limit (0, x.value) x.value goal hard soft (decimal x.value) (codes ")") _ _ refl
            (Prints-placed (rule.one number) (λ v. v) x.value hard (decimal x.value) _ (Prints-number x.value (at_most x.value f)))
            (λ found same. sign_last 41 (grammar.placed_number found) unplaced_limit goal refl refl (λ i. record { value = same i; place = 0 }))
            (λ rest may. refl)))))
            (λ y is. ap Some is)),
      )

  abbrev pub see_limits : Limits → Limits
  see_limits bounds = record { within = option_map unplaced_limit bounds.within; within_gap = option_map unplaced_limit bounds.within_gap }

  abbrev pub both_limits : Option PlacedNumber → Option PlacedNumber → Limits
  both_limits within gap = record { within = within; within_gap = gap }

  limits_shown : (within gap : Option PlacedNumber) → of_some (λ x. is_number x.value) within ≡ true → of_some (λ x. is_number x.value) gap ≡ true
      → Printed grammar.limits see_limits (see_limits (both_limits within gap)) soft (limits_text within gap)
  limits_shown within gap f g =
      let one = limit_shown (codes "within") refl within f in
      let other = limit_shown (codes "withinGap") refl gap g in
      let goal = see_limits (both_limits within gap) in (
        _,
        Prints-then (limit_rule (codes "within")) _ (option_map unplaced_limit) see_limits within (option_map unplaced_limit within) goal soft soft
            (limit_text (codes ".within(") within) (limit_text (codes ".withinGap(") gap) one.0 other.0 refl one.1
            (λ x a. Prints-made (limit_rule (codes "withinGap")) (λ y. both_limits x y) (option_map unplaced_limit) see_limits (option_map unplaced_limit gap)
            goal soft (limit_text (codes ".withinGap(") gap) other.0 other.1 (λ y b i. record { within = a i; within_gap = b i }))
            other.1.begins,
      )

  begin_is : (how : OpenKind) → is_begin how ≡ true → how ≡ Begin
  begin_is Begin f = refl
  begin_is Next f = cc
  begin_is FollowedBy f = cc
  begin_is FollowedByAny f = cc
  begin_is NotNext f = cc
  begin_is NotFollowedBy f = cc

  abbrev pub see_pattern : List Opener × Limits → List Opener × Limits
  see_pattern found = (map unplaced_stage found.0, see_limits found.1)

  abbrev pub found_pattern : List Opener → Limits → List Opener × Limits
  found_pattern openers bounds = (openers, bounds)

  regroup : (a s m t : Text) → (((a ++ 41 ∷ []) ++ s) ++ m) ++ t ≡ a ++ (41 ∷ ((s ++ m) ++ t))
  regroup a s m t =
      ap (λ l. (l ++ m) ++ t) (append_assoc a (41 ∷ []) s)
      ∙ ap (λ l. l ++ t) (append_assoc a (41 ∷ s) m)
      ∙ append_assoc a (41 ∷ (s ++ m)) t

  -- the limits and the sign behind them
  abbrev end_rule : List Opener → Rule (List Opener × Limits)
  end_rule ys = rule.◌>>=◌ grammar.limits (λ bounds. rule.◌>>◌ (rule.sign (codes ";")) (rule.pure (found_pattern ys bounds)))

  record EndShown (openers : List Opener) (bounds : Limits) (z : Text) : Type 0 where
    marks : List Mark
    shown : (ys : List Opener) → map unplaced_stage ys ≡ map unplaced_stage openers
        → Prints (end_rule ys) see_pattern (see_pattern (found_pattern openers bounds)) soft (z ++ codes ";\n") marks
    begins : (rest : Text) → soft (front rest) ≡ true → soft (front ((z ++ codes ";\n") ++ rest)) ≡ true

  end_shown : (openers : List Opener) (bounds : Limits) (z : Text) → Printed grammar.limits see_limits (see_limits bounds) soft z → EndShown openers bounds z
  end_shown openers bounds z lim = record {
    marks = _;
    shown = λ ys same. Prints-then grammar.limits _ see_limits see_pattern bounds (see_limits bounds) (see_pattern (found_pattern openers bounds)) soft soft z
        (codes ";\n") lim.0 _ refl lim.1
        (λ l so. line_end (found_pattern ys l) see_pattern (see_pattern (found_pattern openers bounds)) (λ i. found_pattern (same i) (so i)))
        (λ rest may. refl);
    begins = λ rest may. subst (λ l. soft (front l) ≡ true) (sym (append_assoc z (codes ";\n") rest)) (lim.1.begins (codes ";\n" ++ rest) refl);
  }

  -- the pattern with the text of its limits
  pattern_with : (first : Opener) (more : List Opener) (bounds : Limits) (z : Text) → begins_once (first ∷ more) ≡ true
      → list_all is_formed_opener (first ∷ more) ≡ true → EndShown (first ∷ more) bounds z → stages_height (first ∷ more) ≤ n
      → Printed (grammar.pattern e) see_pattern (see_pattern (found_pattern (first ∷ more) bounds)) soft
      (codes "pattern " ++ (chained (map stage_part (first ∷ more)) ++ (z ++ codes ";\n")))
  unfolding grammar.pattern
  pattern_with first more bounds z f g end h =
      let b = and_parts (is_begin first.how) (list_all (λ o. not (is_begin o.how)) more) f in
      let a = and_parts (is_formed_opener first) (list_all is_formed_opener more) g in
      let begin = begin_is first.how b.0 in
      let form = formed_stage first a.0 in
      let st = stage_shown first form.1 form.2 (first_below (mods_height first.mods) (stages_height more) n h) in
      let ms = more_stages more a.1 b.1 (later_below (mods_height first.mods) (stages_height more) n h) in
      let s = of_text first.of ++ modifiers_text first.mods in
      let m = flat_map with_sign (map stage_part more) in
      let t = z ++ codes ";\n" in
      let lit = literal first.name.text in
      let openers = first ∷ more in
      let goal = see_pattern (found_pattern openers bounds) in
      let text : codes "pattern " ++ (codes "begin(" ++ (lit ++ (41 ∷ ((s ++ m) ++ t)))) ≡ codes "pattern " ++ (chained (map stage_part openers) ++ t) =
      ap (λ l. codes "pattern " ++ (codes "begin(" ++ l)) (sym (regroup lit s m t))
      ∙ ap (λ how. codes "pattern " ++ (((opened_text how first.name.text ++ s) ++ m) ++ t)) (sym begin) in
      subst (λ l. Printed (grammar.pattern e) see_pattern goal soft l) text (
        _,
        word_then (codes "pattern") _ see_pattern goal soft (32 ∷ (codes "begin(" ++ (lit ++ (41 ∷ ((s ++ m) ++ t))))) _ refl (λ rest may. refl)
            (Prints-blank_before _ see_pattern goal soft (codes "begin(" ++ (lit ++ (41 ∷ ((s ++ m) ++ t)))) _
            (word_then (codes "begin") _ see_pattern goal soft (40 ∷ (lit ++ (41 ∷ ((s ++ m) ++ t)))) _ refl (λ rest may. refl)
            (sign_then 40 _ see_pattern goal soft (lit ++ (41 ∷ ((s ++ m) ++ t))) _ refl refl
            (Prints-then (rule.one stage_name) _ unplaced_name see_pattern first.name (unplaced_name first.name) goal soft soft lit
            (41 ∷ ((s ++ m) ++ t)) _ _ refl (Prints-stage_name first.name form.0)
            (λ name is. sign_then 41 _ see_pattern goal soft ((s ++ m) ++ t) _ refl refl
            (Prints-then (grammar.stages e name) _ (map unplaced_stage) see_pattern openers (map unplaced_stage openers) goal soft soft (s ++ m) t
            (st.marks ++ ms.0) _ refl
            (Prints-then (grammar.stage e Begin name) _ unplaced_stage (map unplaced_stage) first (unplaced_stage first) (map unplaced_stage openers)
            soft soft s m st.marks ms.0 refl (st.shown Begin name (sym begin) is)
            (λ y same. Prints-made (rule.many (grammar.next_stage e)) (λ ys. y ∷ ys) (map unplaced_stage) (map unplaced_stage)
            (map unplaced_stage more) (map unplaced_stage openers) soft m ms.0 ms.1 (λ ys so i. same i ∷ so i))
            ms.1.begins)
            (λ ys same. end.shown ys same)
            end.begins))
            (λ rest may. refl))))),
      )

  pub pattern_shown : (openers : List Opener) (within gap : Option PlacedNumber) → begins_once openers ≡ true
      → list_all is_formed_opener openers ≡ true
      → of_some (λ x. is_number x.value) within ≡ true → of_some (λ x. is_number x.value) gap ≡ true → stages_height openers ≤ n
      → Printed (grammar.pattern e) see_pattern (see_pattern (found_pattern openers (both_limits within gap))) soft (pattern_text openers within gap)
  pattern_shown [] within gap f g k j h = cc
  pattern_shown (first ∷ more) within gap f g k j h =
      pattern_with first more (both_limits within gap) (limits_text within gap) f g
      (end_shown (first ∷ more) (both_limits within gap) (limits_text within gap) (limits_shown within gap k j)) h
