-- The tokens of a printed file, and that they are that file.
use Rattle.std.proofs.Common.{◌≡◌, ℕ, suc, ◌+◌, ◌≤◌, true, List, [], ◌∷◌, ◌++◌, length, map, refl, sym, ◌∙◌, ap, subst, arith, append_assoc, append-nil}
use Rattle.std.specs.Prelude.{Option, Some, None, option_map, codes, flat_map, nat_le, Ok}
use Rattle.std.specs.List.{list_all}
use Rattle.cep_token.specs.Form.{is_word}
use Rattle.cep_token.specs.Tokens.{tokens_of, tokens_from}
use Rattle.cep_reading.specs.declared.name.Name.{Name}
use Rattle.cep_reading.specs.Lexeme.{lexeme_of}
use Rattle.cep_reading.specs.Terminal.{stage_name, is_name}
use Rattle.cep_reading.specs.Rule.{Rule}
use Rattle.cep_reading.specs.Rule as rule
use Rattle.cep_expression.specs.declared.expr.SynExpr.{SynExpr}
use Rattle.cep_expression.specs.Grammar.{expression_within}
use Rattle.cep_syntax.specs.declared.file.SkipDecl.{SkipDecl}
use Rattle.cep_syntax.specs.declared.file.SkipDecl.TheVariants.{No, ToNext, PastLast, ToFirst, ToLast}
use Rattle.cep_syntax.specs.declared.file.File.{File}
use Rattle.cep_syntax.specs.Grammar as grammar
use Rattle.cep_syntax.specs.WellFormed.{is_formed, of_some, is_formed_skip, is_formed_select, IsWellFormed}
use Rattle.cep_print.specs.Literal.{Text, literal}
use Rattle.cep_print.specs.Expression.{expression_text}
use Rattle.cep_print.specs.File.{types_text, pattern_text, skip_kind_text, skip_text, shown_part, select_text, printed}
use Rattle.cep_print.specs.Same.{unplaced_name, unplaced}
use Rattle.cep_print.specs.SameFile.{unplaced_type, unplaced_skip, unplaced_file}
use Rattle.cep_print.specs.ReadBack.{Denotes}
use Rattle.cep_print.proofs.Scanned.{front, soft, hard, and_parts, mark}
use Rattle.cep_print.proofs.Prints.{Printed, Prints-then, Prints-made, Prints-left, Prints-right, Prints-pure, Prints-blank_before, harder, soft_stays, sign_then, sign_last, word_then, unseen, Prints-keyword, Prints-stage_name}
use Rattle.cep_print.proofs.PrintedNodes.{height, expression_printed}
use Rattle.cep_print.proofs.PrintedTypes.{Each, ShownItem, rest_items, line_end, types_shown}
use Rattle.cep_print.proofs.PrintedStages.{stages_height, first_below, later_below, both_limits, see_pattern, found_pattern, pattern_shown}

-- ---- the skip

named_shown : (name : Name) → is_name name.text ≡ true → Printed grammar.named unplaced_name (unplaced_name name) soft (40 ∷ (literal name.text ++ codes ")"))
named_shown name f = (
  _,
  sign_then 40 _ unplaced_name (unplaced_name name) soft (literal name.text ++ codes ")") _ refl refl
      (Prints-then (rule.one stage_name) _ unplaced_name unplaced_name name (unplaced_name name) (unplaced_name name) soft soft (literal name.text) (codes ")") _ _ refl (Prints-stage_name name f)
      (λ y is. sign_last 41 y unplaced_name (unplaced_name name) refl refl is) (λ rest may. refl)),
)

here : (r s : Rule SkipDecl) (goal : SkipDecl) (z : Text) → Printed r unplaced_skip goal hard z → Printed (rule.◌or◌ r s) unplaced_skip goal hard z
here r s goal z (marks, p) = (marks, Prints-left r s unplaced_skip goal hard z marks p)

later : (r s : Rule SkipDecl) (goal : SkipDecl) (z : Text) → Printed s unplaced_skip goal hard z → Printed (rule.◌or◌ r s) unplaced_skip goal hard z
later r s goal z (marks, p) = (marks, Prints-right r s unplaced_skip goal hard z marks p)

-- a word alone
alone : (word : Text) (what : SkipDecl) → is_word word ≡ true
    → Printed (rule.◌>>◌ (rule.keyword word) (rule.pure what)) unplaced_skip (unplaced_skip what) hard word
alone word what f =
    (_, Prints-made (rule.keyword word) (λ u. what) unseen unplaced_skip tt (unplaced_skip what) hard word _ (Prints-keyword word f) (λ u is. refl))

-- a word with a name
with_name : (word : Text) (make : Name → SkipDecl) (name : Name) → is_word word ≡ true → is_name name.text ≡ true
    → ((y : Name) → unplaced_name y ≡ unplaced_name name → unplaced_skip (make y) ≡ unplaced_skip (make name))
    → Printed (rule.◌>>◌ (rule.keyword word) (rule.◌>>=◌ grammar.named (λ y. rule.pure (make y)))) unplaced_skip (unplaced_skip (make name)) hard (word ++ (40 ∷ (literal name.text ++ codes ")")))
with_name word make name f g so =
    let p = named_shown name g in (
      _,
      harder _ unplaced_skip (unplaced_skip (make name)) _ _
          (word_then word _ unplaced_skip (unplaced_skip (make name)) soft (40 ∷ (literal name.text ++ codes ")")) p.0 f (λ rest may. refl)
          (Prints-made grammar.named make unplaced_name unplaced_skip (unplaced_name name) (unplaced_skip (make name)) soft _ p.0 p.1 so)),
    )

skip_kind_shown : (what : SkipDecl) → is_formed_skip what ≡ true → Printed grammar.skip_kind unplaced_skip (unplaced_skip what) hard (skip_kind_text what)
skip_kind_shown No f = here _ _ _ _ (alone (codes "none") No refl)
skip_kind_shown ToNext f = later _ _ _ _ (here _ _ _ _ (alone (codes "to_next") ToNext refl))
skip_kind_shown PastLast f = later _ _ _ _ (later _ _ _ _ (here _ _ _ _ (alone (codes "past_last") PastLast refl)))
skip_kind_shown (ToFirst name) f = later _ _ _ _ (later _ _ _ _ (later _ _ _ _ (here _ _ _ _ (with_name (codes "to_first") ToFirst name refl f (λ y is. ap ToFirst is)))))
skip_kind_shown (ToLast name) f = later _ _ _ _ (later _ _ _ _ (later _ _ _ _ (later _ _ _ _ (with_name (codes "to_last") ToLast name refl f (λ y is. ap ToLast is)))))

skip_shown : (what : SkipDecl) → is_formed_skip what ≡ true → Printed grammar.skip unplaced_skip (unplaced_skip what) soft (skip_text (Some what))
unfolding grammar.skip
skip_shown what f =
    let p = skip_kind_shown what f in
    let goal = unplaced_skip what in (
      _,
      word_then (codes "skip") _ unplaced_skip goal soft (32 ∷ (skip_kind_text what ++ codes ";\n")) _ refl (λ rest may. refl)
          (Prints-blank_before _ unplaced_skip goal soft (skip_kind_text what ++ codes ";\n") _
          (Prints-then grammar.skip_kind _ unplaced_skip unplaced_skip what goal goal hard soft (skip_kind_text what) (codes ";\n") p.0 _ refl p.1
          (λ y is. line_end y unplaced_skip goal is) (λ rest may. refl))),
    )

maybe_skip_shown : (skip : Option SkipDecl) → of_some is_formed_skip skip ≡ true
    → Printed (rule.maybe grammar.skip) (option_map unplaced_skip) (option_map unplaced_skip skip) soft (skip_text skip)
maybe_skip_shown None f =
    (_, Prints-right _ (rule.pure None) (option_map unplaced_skip) None soft [] _ (Prints-pure None (option_map unplaced_skip) soft soft_stays))
maybe_skip_shown (Some what) f =
    let p = skip_shown what f in (
      p.0,
      Prints-left _ (rule.pure None) (option_map unplaced_skip) (Some (unplaced_skip what)) soft (skip_text (Some what)) p.0
          (Prints-made grammar.skip Some unplaced_skip (option_map unplaced_skip) (unplaced_skip what) (Some (unplaced_skip what)) soft _ p.0 p.1
          (λ y is. ap Some is)),
    )

-- ---- the select

abbrev pub shown_height : List SynExpr → ℕ
shown_height [] = 0
shown_height (x ∷ xs) = height x.node + shown_height xs

abbrev pub select_height : Option (List SynExpr) → ℕ
select_height None = 0
select_height (Some shown) = shown_height shown

abbrev pub file_height : File → ℕ
file_height f = stages_height f.openers + select_height f.select

module _ (n : ℕ) where
  abbrev e : Rule SynExpr
  e = expression_within (suc n)

  each_shown : (shown : List SynExpr) → list_all is_formed shown ≡ true → shown_height shown ≤ n → Each (ShownItem e unplaced expression_text) shown
  each_shown [] f h = tt
  each_shown (x ∷ xs) f h =
      let k = and_parts (is_formed x) (list_all is_formed xs) f in
      (expression_printed x k.0 n (first_below (height x.node) (shown_height xs) n h), each_shown xs k.1 (later_below (height x.node) (shown_height xs) n h))

  abbrev with_sign : Text × Text → Text
  with_sign part = part.0 ++ part.1

  select_shown : (shown : List SynExpr) → is_formed_select shown ≡ true → shown_height shown ≤ n
      → Printed (grammar.select e) (map unplaced) (map unplaced shown) soft (select_text (Some shown))
  unfolding grammar.select
  select_shown [] f h = cc
  select_shown (x ∷ xs) f h =
      let k = and_parts (nat_le 1 (length (x ∷ xs))) (list_all is_formed (x ∷ xs)) f in
      let each = each_shown (x ∷ xs) k.1 h in
      let behind = rest_items e unplaced expression_text xs each.1 in
      let t = expression_text x in
      let m = flat_map with_sign (map shown_part xs) in
      let goal = map unplaced (x ∷ xs) in
      subst (λ l. Printed (grammar.select e) (map unplaced) goal soft (codes "select " ++ l)) (sym (append_assoc t m (codes ";\n"))) (
        _,
        word_then (codes "select") _ (map unplaced) goal soft (32 ∷ (t ++ (m ++ codes ";\n"))) _ refl (λ rest may. refl)
            (Prints-blank_before _ (map unplaced) goal soft (t ++ (m ++ codes ";\n")) _
            (Prints-then e _ unplaced (map unplaced) x (unplaced x) goal hard soft t (m ++ codes ";\n") each.0.0 _ refl each.0.1
            (λ y is. Prints-then (rule.many (rule.◌>>◌ (rule.sign (codes ",")) e)) _ (map unplaced) (map unplaced) xs (map unplaced xs) goal hard soft m (codes ";\n") behind.found.0 _ refl behind.found.1
            (λ ys same. line_end (y ∷ ys) (map unplaced) goal (λ i. is i ∷ same i)) (λ rest may. refl))
            (λ rest may. subst (λ l. hard (front l) ≡ true) (sym (append_assoc m (codes ";\n") rest)) (behind.begins (codes ";\n" ++ rest) refl)))),
      )

  maybe_select_shown : (select : Option (List SynExpr)) → of_some is_formed_select select ≡ true → select_height select ≤ n
      → Printed (rule.maybe (grammar.select e)) (option_map (map unplaced)) (option_map (map unplaced) select) soft (select_text select)
  maybe_select_shown None f h =
      (_, Prints-right _ (rule.pure None) (option_map (map unplaced)) None soft [] _ (Prints-pure None (option_map (map unplaced)) soft soft_stays))
  maybe_select_shown (Some shown) f h =
      let p = select_shown shown f h in (
        p.0,
        Prints-left _ (rule.pure None) (option_map (map unplaced)) (Some (map unplaced shown)) soft (select_text (Some shown)) p.0
            (Prints-made (grammar.select e) Some (map unplaced) (option_map (map unplaced)) (map unplaced shown) (Some (map unplaced shown)) soft _ p.0
            p.1 (λ y is. ap Some is)),
      )

  abbrev Soft : Text → Type 0
  Soft z = (rest : Text) → soft (front rest) ≡ true → soft (front (z ++ rest)) ≡ true

  both_soft : (z w : Text) → Soft z → Soft w → Soft (z ++ w)
  both_soft z w first second rest may = subst (λ l. soft (front l) ≡ true) (sym (append_assoc z w rest)) (first (w ++ rest) (second rest may))

  file_shown : (f : File) → IsWellFormed f → file_height f ≤ n → Printed (grammar.file e) unplaced_file (unplaced_file f) soft (printed f)
  unfolding grammar.file
  file_shown f form h =
      let goal = unplaced_file f in
      let bounds = both_limits n f.within f.within_gap in
      let ts = types_shown f.types form.types in
      let ps = pattern_shown n f.openers f.within f.within_gap form.begins form.openers form.limit form.gap
      (first_below (stages_height f.openers) (select_height f.select) n h) in
      let ks = maybe_skip_shown f.skip form.skips in
      let ss = maybe_select_shown f.select form.shows (later_below (stages_height f.openers) (select_height f.select) n h) in
      let w = skip_text f.skip ++ select_text f.select in (
        _,
        Prints-then (rule.many grammar.declaration) _ (map unplaced_type) unplaced_file f.types (map unplaced_type f.types) goal soft soft
            (types_text f.types) (pattern_text f.openers f.within f.within_gap ++ w) ts.0 _ refl ts.1
            (λ types a. Prints-then (grammar.pattern e) _ (see_pattern n) unplaced_file (found_pattern n f.openers bounds)
            (see_pattern n (found_pattern n f.openers bounds)) goal soft soft (pattern_text f.openers f.within f.within_gap) w ps.0 _ refl ps.1
            (λ found b. Prints-then (rule.maybe grammar.skip) _ (option_map unplaced_skip) unplaced_file f.skip (option_map unplaced_skip f.skip)
            goal soft soft (skip_text f.skip) (select_text f.select) ks.0 ss.0 refl ks.1
            (λ after c. Prints-made (rule.maybe (grammar.select e)) _ (option_map (map unplaced)) unplaced_file (option_map (map unplaced) f.select)
            goal soft (select_text f.select) ss.0 ss.1
            (λ shown d i. record { types = a i; openers = (b i).0; within = (b i).1.within; within_gap = (b i).1.within_gap; skip = c i; select = d i }))
            ss.1.begins)
            (both_soft (skip_text f.skip) (select_text f.select) ks.1.begins ss.1.begins))
            (both_soft (pattern_text f.openers f.within f.within_gap) w ps.1.begins
            (both_soft (skip_text f.skip) (select_text f.select) ks.1.begins ss.1.begins)),
      )

-- ---- the tokens of the whole text

map-map : {X Y Z : Type 0} (g : Y → Z) (f : X → Y) (xs : List X) → map g (map f xs) ≡ map (λ x. g (f x)) xs
map-map g f [] = refl
map-map g f (x ∷ xs) = ap (λ l. g (f x) ∷ l) (map-map g f xs)

pub denotes : (f : File) → IsWellFormed f → Denotes (printed f) f
unfolding tokens_of
denotes f form =
    let n = file_height f in
    let z = printed f in
    let p = file_shown n f form (omega arith) in
    let s = p.1.scan.scan [] [] refl in
    let marks = map-map mark (lexeme_of z) s.0 ∙ (λ i. map (λ t. mark (lexeme_of (sym (append-nil z) i) t)) s.0) ∙ s.2 in
    let m = p.1.means (map (lexeme_of z) s.0) marks in
    record {
      tokens = s.0;
      are = ap (tokens_from 0 0) (sym (append-nil z)) ∙ s.1 ∙ ap Ok (append-nil s.0);
      file = m.0;
      is = (suc n, m.1);
      same = m.2;
    }
