-- The reader of whole files against the productions, and where it stops at `greedy`.
use Rattle.std.proofs.Common.{◌≡◌, ℕ, suc, Bool, true, false, ◌||◌, inl, inr, List, [], ◌∷◌, ◌++◌, refl, sym, ◌∙◌, ap, subst, append_assoc, append-nil}
use Rattle.std.specs.Prelude.{codes, Option, Some, None}
use Rattle.std.specs.Str.{bytes_eq}
use Rattle.cep_token.specs.declared.token.TokenKind.TheVariants as token
use Rattle.cep_reading.specs.declared.name.Name.{Name}
use Rattle.cep_reading.specs.declared.stop.Stop.TheVariants.{Greedy}
use Rattle.cep_reading.specs.Lexeme.{Lexeme}
use Rattle.cep_reading.specs.Terminal.{only, symbol, word, stage_name}
use Rattle.cep_reading.specs.Reading.{Left, Reader, next_is}
use Rattle.cep_reading.specs.Reading as read
use Rattle.cep_reading.specs.Rule.{Rule, InTurn, Builds}
use Rattle.cep_reading.specs.Rule as rule
use Rattle.cep_reading.proofs.Laws.{Sound, Sound-one, Stops, StartsWith}
use Rattle.cep_reading.proofs.Starts.{Avoids, avoids_by, avoids-or, starts-one, starts-word, starts-then, starts-wider, one_of, same_one_of, same_symbol, same_word, or_false, neither}
use Rattle.cep_reading.proofs.Quiet.{Quiet, Quiet-then, Quiet-pure}
use Rattle.cep_reading.proofs.Exact.{Exact, nothing, stops_nothing, Exact-pure, exact-symbol, exact-word, Exact-last, Exact-before, Exact-made, Exact-choose, Exact-then, Exact-narrower, Exact-same}
use Rattle.cep_reading.proofs.Links.{Linked, Sound-links, Complete-links, Agrees-links, Lasts-links}
use Rattle.cep_reading.proofs.Warns.{Exact-unless, Warns, Warns-later, Warns-first, WarnsFirst, WarnsFirst-unless, WarnsFirst-choose, up_to_link, Warns-links}
use Rattle.cep_expression.specs.declared.expr.SynExpr.{SynExpr}
use Rattle.cep_expression.proofs.Expressions.{exact-stage_name}
use Rattle.cep_syntax.specs.declared.file.Opener.{Opener}
use Rattle.cep_syntax.specs.declared.file.TypeDecl.{TypeDecl}
use Rattle.cep_syntax.specs.declared.file.SkipDecl.{SkipDecl}
use Rattle.cep_syntax.specs.declared.file.PlacedNumber.{PlacedNumber}
use Rattle.cep_syntax.specs.declared.limit.Limits.{Limits}
use Rattle.cep_syntax.specs.declared.file.File.{File}
use Rattle.cep_syntax.specs.declared.link.Building.{Building}
use Rattle.cep_syntax.specs.Terminal.{opener, is_opener, is_limit}
use Rattle.cep_syntax.specs.Links.{started, added, limits_of, openers_of}
use Rattle.cep_syntax.specs.Grammar.{stages}
use Rattle.cep_syntax.specs.Grammar as grammar
use Rattle.cep_syntax.specs.Reader as reader
use Rattle.cep_syntax.proofs.Stages.{of_link, open_link, modifier_link, plain_link, any_link, links-stages, stages-links}
use Rattle.cep_syntax.proofs.Files.{deep, opener_words, opener_is, is_opener_word, modifier_words, starts-modifier, avoids-words, starts-semicolon, starts-select, exact-of_link, exact-open_link, exact-modifier_link, dot, both_limits, gap_alone, gap_behind, ending, starts-ending, exact-ending, exact-declarations, exact-maybe_skip, exact-maybe_select}

-- ---- what links begin with

starts-open_link : StartsWith open_link is_opener
unfolding grammar.opener_named
starts-open_link = starts-then _ _ is_opener (starts-then _ _ is_opener (starts-one opener is_opener opener_is))

starts-open_words : StartsWith open_link (one_of opener_words)
starts-open_words = starts-wider _ is_opener (one_of opener_words) starts-open_link is_opener_word

starts-modifier_link : (k : ℕ) → StartsWith (modifier_link (deep k)) (one_of modifier_words)
starts-modifier_link k = starts-then _ _ (one_of modifier_words) (starts-modifier (deep k))

starts-of_link : StartsWith of_link (word (codes "of"))
unfolding grammar.of_name
starts-of_link = starts-then _ _ (word (codes "of")) (starts-then _ _ (word (codes "of")) (starts-word (codes "of")))

modifier_is_no_opener : (t : Lexeme) → one_of modifier_words t ≡ true → is_opener t ≡ false
modifier_is_no_opener t e =
    let p0 = same_one_of modifier_words (codes "next") t refl e in
    let p1 = same_one_of modifier_words (codes "followedBy") t refl e in
    let p2 = same_one_of modifier_words (codes "followedByAny") t refl e in
    let p3 = same_one_of modifier_words (codes "notNext") t refl e in
    let p4 = same_one_of modifier_words (codes "notFollowedBy") t refl e in
    λ i. p0 i || (p1 i || (p2 i || (p3 i || p4 i)))

plain-avoids : (k : ℕ) (other : List ℕ) → Avoids open_link (word other) → Avoids (modifier_link (deep k)) (word other)
    → Avoids (plain_link (deep k)) (word other)
plain-avoids k other one two = avoids-or _ _ (word other) one two

plain_no_greedy : (k : ℕ) → Avoids (plain_link (deep k)) (word (codes "greedy"))
plain_no_greedy k = plain-avoids k (codes "greedy") (avoids-words opener_words (codes "greedy") _ refl starts-open_words) (avoids-words modifier_words (codes "greedy") _ refl (starts-modifier_link k))

plain_no_of : (k : ℕ) → Avoids (plain_link (deep k)) (word (codes "of"))
plain_no_of k = plain-avoids k (codes "of") (avoids-words opener_words (codes "of") _ refl starts-open_words) (avoids-words modifier_words (codes "of") _ refl (starts-modifier_link k))

plain_no_within : (k : ℕ) → Avoids (plain_link (deep k)) (word (codes "within"))
plain_no_within k = plain-avoids k (codes "within") (avoids-words opener_words (codes "within") _ refl starts-open_words) (avoids-words modifier_words (codes "within") _ refl (starts-modifier_link k))

plain_no_gap : (k : ℕ) → Avoids (plain_link (deep k)) (word (codes "withinGap"))
plain_no_gap k =
    plain-avoids k (codes "withinGap") (avoids-words opener_words (codes "withinGap") _ refl starts-open_words)
    (avoids-words modifier_words (codes "withinGap") _ refl (starts-modifier_link k))

avoids-either : {A : Type 0} (r : Rule A) (P Q : Lexeme → Bool) → Avoids r P → Avoids r Q → Avoids r (λ t. P t || Q t)
avoids-either r P Q one other = record { stops = λ used rest a h. at (used ++ rest) (one.stops used rest a h) (other.stops used rest a h) } where
  at : (l : Left) → Stops P l → Stops Q l → Stops (λ t. P t || Q t) l
  at [] e f = refl
  at (t ∷ l) e f = neither (P t) (Q t) e f

plain_no_limit : (k : ℕ) → Avoids (plain_link (deep k)) is_limit
plain_no_limit k = avoids-either (plain_link (deep k)) (word (codes "within")) (word (codes "withinGap")) (plain_no_within k) (plain_no_gap k)

-- a word of one text is no limit, unless it is that of one
no_limit : (text : List ℕ) (t : Lexeme) → bytes_eq text (codes "within") ≡ false → bytes_eq text (codes "withinGap") ≡ false → word text t ≡ true
    → is_limit t ≡ false
no_limit text t one other e =
    neither (word (codes "within") t) (word (codes "withinGap") t) (same_word text (codes "within") t e ∙ one)
    (same_word text (codes "withinGap") t e ∙ other)

link_no_limit : (fresh : Bool) (k : ℕ) → Avoids (any_link (deep k) fresh) is_limit
link_no_limit true k =
    avoids-or _ _ is_limit (avoids_by _ (word (codes "of")) is_limit starts-of_link (λ t e. no_limit (codes "of") t refl refl e)) (plain_no_limit k)
link_no_limit false k = plain_no_limit k

-- ---- links

module _ {n : ℕ} where
  exact-some_link : {q : Bool} → Exact q n n (λ k. plain_link (deep k)) (λ m. read.choose is_opener reader.open_link (reader.modifier_link m)) nothing
  exact-some_link =
      Exact-choose is_opener _ _ _ _ nothing exact-open_link exact-modifier_link
      (λ k. starts-open_link) (λ k used rest a h stops. (avoids_by _ (one_of modifier_words) is_opener (starts-modifier_link k)
      modifier_is_no_opener).stops used rest a h)

  exact-plain_link : Exact false n n (λ k. plain_link (deep k)) reader.plain_link nothing
  unfolding reader.plain_link
  exact-plain_link = Exact-unless (word (codes "greedy")) Greedy _ _ nothing (λ e. cc) plain_no_greedy exact-some_link

  exact-any_link : (fresh : Bool) → Exact false n n (λ k. any_link (deep k) fresh) (λ m. reader.any_link m fresh) nothing
  exact-any_link true =
      Exact-choose (word (codes "of")) _ _ _ _ nothing exact-of_link exact-plain_link
      (λ k. starts-of_link) (λ k used rest a h stops. (plain_no_of k).stops used rest a h)
  exact-any_link false = exact-plain_link

warns-plain_link : (n : ℕ) → WarnsFirst (reader.plain_link n)
unfolding reader.plain_link
warns-plain_link n = WarnsFirst-unless _ ((exact-some_link {n = n} {q = true}).quiet refl)

warns-any_link : (n : ℕ) (fresh : Bool) → WarnsFirst (reader.any_link n fresh)
warns-any_link n true = WarnsFirst-choose (word (codes "of")) _ _ ((exact-of_link {q = true} {n = n}).quiet refl) (warns-plain_link n) (λ t e. same_word (codes "greedy") (codes "of") t e)
warns-any_link n false = warns-plain_link n

dot_token : Lexeme
dot_token = record { kind = token.Symbol; text = codes "."; place = 0 }

sound-dot : Sound (read.sign (codes ".")) (rule.sign (codes "."))
sound-dot = Sound-one (only dot) (record { kind = token.Symbol; text = codes "."; place = 0 }) tt refl

-- the stages behind the first name, by links
abbrev linked : ℕ → Building → Rule (Building × Option Limits)
linked k s = Linked (codes ".") is_limit added ending (λ b. any_link (deep k) b.fresh) s

module _ {n : ℕ} where
  exact-chain : (s : Building) → Exact false n n (λ k. linked k s) (λ m. reader.chain m s) dot
  unfolding dot_token
  exact-chain s = record {
    sound = Sound-links (codes ".") is_limit added ending (λ b. any_link (deep (suc n)) b.fresh) (λ b. reader.any_link n b.fresh) reader.ending
        dot_token refl
        (λ b. (exact-any_link b.fresh).sound) ((exact-ending {q = false} {n = n} {l = n}).sound) n s;
    complete = λ k. Complete-links (codes ".") is_limit added ending (λ b. any_link (deep k) b.fresh) (λ b. reader.any_link n b.fresh)
        reader.ending nothing stops_nothing
        (λ b. (exact-any_link b.fresh).complete k) ((exact-ending {q = false} {n = n} {l = n}).complete k) starts-ending
        (λ b. link_no_limit b.fresh k) n s;
    agrees = λ m. Agrees-links (codes ".") is_limit added ending (λ b. any_link (deep (suc n)) b.fresh) (λ b. reader.any_link n b.fresh) reader.ending
        dot_token refl
        (λ b. (exact-any_link b.fresh).sound) ((exact-ending {q = false} {n = n} {l = n}).sound) (λ b. reader.any_link m b.fresh)
        reader.ending (λ b. (exact-any_link b.fresh).agrees m) ((exact-ending {q = false} {n = n} {l = n}).agrees m) n m s;
    lasts = Lasts-links (codes ".") is_limit added ending (λ b. any_link (deep (suc n)) b.fresh) (λ b. reader.any_link n b.fresh) reader.ending
        dot_token refl
        (λ b. (exact-any_link b.fresh).sound) ((exact-ending {q = false} {n = n} {l = n}).sound) n (λ b. (exact-any_link b.fresh).lasts)
        ((exact-ending {q = false} {n = n} {l = n}).lasts) s;
    quiet = λ e. cc;
  }

  warns-chain : (s : Building) → Warns n (reader.chain n s) (λ k. up_to_link (codes ".") added (λ b. any_link (deep k) b.fresh) s)
  warns-chain s =
      Warns-links (codes ".") is_limit added n (λ k b. any_link (deep k) b.fresh) (λ b. reader.any_link n b.fresh) reader.ending
      sound-dot (λ b. (exact-any_link b.fresh).sound) (λ k b. (exact-any_link b.fresh).complete k)
      (λ k b. link_no_limit b.fresh k) (λ b. warns-any_link n b.fresh) ((exact-ending {q = true} {n = n} {l = n}).quiet refl)
      (λ t e. no_limit (codes "greedy") t refl refl e) s

-- ---- the pattern by links is the pattern by stages

-- the one part of a rule that makes its value of it, and such a rule of the part
whole : {A B : Type 0} (r : Rule A) (f : A → B) (used : Left) (b : B) → rule.◌>>=◌ r (λ a. rule.pure (f a)) used b → (a : A) × r used a × (b ≡ f a)
whole r f used b h =
    (h.value, subst (λ l. r l h.value) (sym (h.is ∙ ap (λ l. h.front ++ l) h.second.0 ∙ append-nil h.front)) h.first, h.second.1)

made : {A B : Type 0} (r : Rule A) (f : A → B) (used : Left) (a : A) → r used a → rule.◌>>=◌ r (λ x. rule.pure (f x)) used (f a)
made r f used a h = record { front = used; back = []; value = a; is = sym (append-nil used); first = h; second = (refl, refl) }

abbrev ends_so : Rule (Option Limits)
ends_so = rule.maybe (rule.◌>>◌ (rule.sign (codes ".")) ending)

abbrev within_behind : Rule (Option PlacedNumber)
within_behind = rule.maybe (rule.◌>>◌ (rule.sign (codes ".")) (grammar.limited (codes "within")))

-- a dot with the limits behind it, or nothing, is the one limit and the other
ending_limits : (used : Left) (w : Option Limits) → ends_so used w → grammar.limits used (limits_of w)
ending_limits used w (inr h) =
    subst (λ x. grammar.limits used (limits_of x)) (sym h.1) (subst (λ l. grammar.limits l (limits_of None)) (sym h.0) (record {
      front = [];
      back = [];
      value = None;
      is = refl;
      first = inr (refl, refl);
      second = made gap_behind (λ gap. record { within = None; within_gap = gap }) [] None (inr (refl, refl));
    }))
ending_limits used w (inl h) =
    let k = whole (rule.◌>>◌ (rule.sign (codes ".")) ending) Some used w h in
    subst (λ x. grammar.limits used (limits_of x)) (sym k.2) (cases k.0 k.1 k.1.second) where
      cases : (l : Limits) (k : rule.◌>>◌ (rule.sign (codes ".")) ending used l) → ending k.back l → grammar.limits used l
      cases l k (inl m) =
          let n = whole gap_behind (both_limits m.value) m.back l m.second in
          subst (grammar.limits used) (sym n.2) (record {
            front = k.front ++ m.front;
            back = m.back;
            value = Some m.value;
            is = k.is ∙ ap (λ x. k.front ++ x) m.is ∙ sym (append_assoc k.front m.front m.back);
            first = inl (made (rule.◌>>◌ (rule.sign (codes ".")) (grammar.limited (codes "within"))) Some (k.front ++ m.front) m.value
                (record { front = k.front; back = m.front; value = k.value; is = refl; first = k.first; second = m.first }));
            second = made gap_behind (both_limits m.value) m.back n.0 n.1;
          })
      cases l k (inr m) =
          let n = whole (grammar.limited (codes "withinGap")) gap_alone k.back l m in
          subst (grammar.limits used) (sym n.2) (record {
            front = [];
            back = used;
            value = None;
            is = refl;
            first = inr (refl, refl);
            second = made gap_behind (λ gap. record { within = None; within_gap = gap }) used (Some n.0)
                (inl (made (rule.◌>>◌ (rule.sign (codes ".")) (grammar.limited (codes "withinGap"))) Some used n.0
                (record { front = k.front; back = k.back; value = k.value; is = k.is; first = k.first; second = n.1 })));
          })

limits_ending : (used : Left) (v : Limits) → grammar.limits used v → (w : Option Limits) × ends_so used w × (limits_of w ≡ v)
limits_ending used v h =
    let q = whole gap_behind (λ gap. record { within = h.value; within_gap = gap }) h.back v h.second in
    cases h.front h.back h.value q.0 h.is q.2 h.first q.1 where
      cases : (front back : Left) (within gap : Option PlacedNumber) → used ≡ front ++ back → v ≡ record { within = within; within_gap = gap }
          → within_behind front within → gap_behind back gap → (w : Option Limits) × ends_so used w × (limits_of w ≡ v)
      cases front back within gap is v_is (inl a) g =
          let x = whole (rule.◌>>◌ (rule.sign (codes ".")) (grammar.limited (codes "within"))) Some front within a in
          let k = x.1 in (
            Some (both_limits x.0 gap),
            inl (made (rule.◌>>◌ (rule.sign (codes ".")) ending) Some used (both_limits x.0 gap) (record {
              front = k.front;
              back = k.back ++ back;
              value = k.value;
              is = is ∙ ap (λ l. l ++ back) k.is ∙ append_assoc k.front k.back back;
              first = k.first;
              second = inl (record {
                front = k.back;
                back = back;
                value = x.0;
                is = refl;
                first = k.second;
                second = made gap_behind (both_limits x.0) back gap g;
              });
            })),
            sym (v_is ∙ (λ i. record { within = x.2 i; within_gap = gap })),
          )
      cases front back within gap is v_is (inr a) (inl g) =
          let x = whole (rule.◌>>◌ (rule.sign (codes ".")) (grammar.limited (codes "withinGap"))) Some back gap g in
          let k = x.1 in (
            Some (gap_alone x.0),
            inl (made (rule.◌>>◌ (rule.sign (codes ".")) ending) Some used (gap_alone x.0) (record {
              front = k.front;
              back = k.back;
              value = k.value;
              is = is ∙ ap (λ l. l ++ back) a.0 ∙ k.is;
              first = k.first;
              second = inr (made (grammar.limited (codes "withinGap")) gap_alone k.back x.0 k.second);
            })),
            sym (v_is ∙ (λ i. record { within = a.1 i; within_gap = x.2 i })),
          )
      cases front back within gap is v_is (inr a) (inr g) = (
        None,
        inr (is ∙ ap (λ l. l ++ back) a.0 ∙ g.0, refl),
        sym (v_is ∙ (λ i. record { within = a.1 i; within_gap = g.1 i })),
      )

module _ (e : Rule SynExpr) where
  abbrev ended : List Opener × Limits → Rule (List Opener × Limits)
  ended found = rule.◌>>◌ (rule.sign (codes ";")) (rule.pure found)

  abbrev by_links : Name → Rule (List Opener × Limits)
  by_links name =
      rule.◌>>=◌ (Linked (codes ".") is_limit added ending (λ b. any_link e b.fresh) (started name))
      (λ built. ended (openers_of built.0, limits_of built.1))

  abbrev by_stages : Name → Rule (List Opener × Limits)
  by_stages name = rule.◌>>=◌ (stages e name) (λ openers. rule.◌>>=◌ grammar.limits (λ bounds. ended (openers, bounds)))

  to_stages : (name : Name) (used : Left) (v : List Opener × Limits) → by_links name used v → by_stages name used v
  to_stages name used v h =
      let l = h.first in
      let back_is : l.back ≡ l.second.front = l.second.is ∙ ap (λ ts. l.second.front ++ ts) l.second.second.0 ∙ append-nil l.second.front in
      record {
        front = l.front;
        back = l.second.front ++ h.back;
        value = openers_of l.value;
        is = h.is ∙ ap (λ ts. ts ++ h.back) (l.is ∙ ap (λ ts. l.front ++ ts) back_is) ∙ append_assoc l.front l.second.front h.back;
        first = links-stages e name l.front l.value l.first;
        second =
            record {
              front = l.second.front;
              back = h.back;
              value = limits_of l.second.value;
              is = refl;
              first = ending_limits l.second.front l.second.value l.second.first;
              second =
                  subst (λ b. ended (openers_of b.0, limits_of b.1) h.back v) l.second.second.1 h.second;
            };
      }

  to_links : (name : Name) (used : Left) (v : List Opener × Limits) → by_stages name used v → by_links name used v
  to_links name used v h =
      let k = stages-links e name h.front h.value h.first in
      let w = limits_ending h.second.front h.second.value h.second.first in
      record {
        front = h.front ++ h.second.front;
        back = h.second.back;
        value = (k.0, w.0);
        is = h.is ∙ ap (λ ts. h.front ++ ts) h.second.is ∙ sym (append_assoc h.front h.second.front h.second.back);
        first = record {
          front = h.front;
          back = h.second.front;
          value = k.0;
          is = refl;
          first = k.1;
          second =
              record {
                front = h.second.front;
                back = [];
                value = w.0;
                is = sym (append-nil h.second.front);
                first = w.1;
                second = (refl, refl);
              };
        };
        second =
            subst (λ openers. ended (openers, limits_of w.0) h.second.back v) (sym k.2)
            (subst (λ bounds. ended (h.value, bounds) h.second.back v) (sym w.2) h.second.second);
      }

  -- up to the sign of one more link
  abbrev up_to_links : Name → Rule (Unit {0})
  up_to_links name = up_to_link (codes ".") added (λ b. any_link e b.fresh) (started name)

  abbrev up_to_stages : Name → Rule (Unit {0})
  up_to_stages name = rule.◌>>=◌ (stages e name) (λ _. rule.sign (codes "."))

  up_to_stages_of : (name : Name) (used : Left) → up_to_links name used tt → up_to_stages name used tt
  up_to_stages_of name used h =
      record {
        front = h.front;
        back = h.back;
        value = openers_of h.value;
        is = h.is;
        first = links-stages e name h.front h.value h.first;
        second =
            h.second;
      }

  up_to_links_of : (name : Name) (used : Left) → up_to_stages name used tt → up_to_links name used tt
  up_to_links_of name used h =
      let k = stages-links e name h.front h.value h.first in
      record { front = h.front; back = h.back; value = k.0; is = h.is; first = k.1; second = h.second }

starts-pattern : (e : Rule SynExpr) → StartsWith (grammar.pattern e) (word (codes "pattern"))
unfolding grammar.pattern
starts-pattern e = starts-then _ _ (word (codes "pattern")) (starts-word (codes "pattern"))

-- the same fronts in other words
Warns-same : {A : Type 0} (n : ℕ) (p : Reader A) (g h : ℕ → Rule (Unit {0})) → ((k : ℕ) (used : Left) → g k used tt → h k used tt)
    → ((k : ℕ) (used : Left) → h k used tt → g k used tt) → Warns n p g → Warns n p h
Warns-same n p g h to from warns = record {
  found = λ ts rest e. let x = warns.found ts rest e in (record { used = x.0.used; is = x.0.is; holds = to (suc n) x.0.used x.0.holds }, x.1);
  given = λ k used rest t f e. warns.given k used rest t (from k used f) e;
}

end_quiet : (v : List Opener × Limits) → Quiet (read.◌>>◌ (read.sign (codes ";")) (read.pure v))
end_quiet v = Quiet-then _ _ ((exact-symbol {q = true} {n = 0} {l = 0} (codes ";") nothing refl).quiet refl) (λ _. Quiet-pure v)

abbrev in_pattern : ℕ → Rule (Unit {0})
in_pattern k =
    rule.◌>>=◌ (rule.keyword (codes "pattern")) (λ _. rule.◌>>=◌ (rule.keyword (codes "begin")) (λ _. rule.◌>>=◌ (rule.sign (codes "(")) (λ _. rule.◌>>=◌ (rule.one stage_name) (λ name.
    rule.◌>>=◌ (rule.sign (codes ")")) (λ _. up_to_stages (deep k) name)))))

module _ {n : ℕ} where
  -- the chain and the end of the pattern, by stages
  exact-stages : (name : Name) → Exact false n n (λ k. by_stages (deep k) name)
      (λ m. read.◌>>=◌ (reader.chain m (started name))
      (λ built. read.◌>>◌ (read.sign (codes ";")) (read.pure (openers_of built.0, limits_of built.1)))) nothing
  exact-stages name =
      Exact-same (λ k. by_links (deep k) name) (λ k. by_stages (deep k) name) _ nothing (λ k. to_stages (deep k) name) (λ k. to_links (deep k) name)
      (Exact-before _ _ _ _ dot nothing (symbol (codes ";")) (exact-chain (started name))
      (λ built. Exact-last _ _ _ _ nothing (exact-symbol (codes ";") nothing refl) (λ _. Exact-pure (openers_of built.0, limits_of built.1) nothing))
      (λ k built. starts-semicolon _) (λ t e. same_symbol (codes ";") (codes ".") t e))

  exact-pattern : Exact false n n (λ k. grammar.pattern (deep k)) reader.pattern nothing
  unfolding grammar.pattern reader.pattern
  exact-pattern =
      Exact-last _ _ _ _ nothing (exact-word (codes "pattern") nothing refl) (λ _.
      Exact-last _ _ _ _ nothing (exact-word (codes "begin") nothing refl) (λ _.
      Exact-last _ _ _ _ nothing (exact-symbol (codes "(") nothing refl) (λ _.
      Exact-last _ _ _ _ nothing exact-stage_name (λ name.
      Exact-last _ _ _ _ nothing (exact-symbol (codes ")") nothing refl) (λ _. exact-stages name)))))

  -- where a pattern's reader stops at `greedy`
  warns-pattern : Warns n (reader.pattern n) in_pattern
  unfolding reader.pattern
  warns-pattern =
      let none = λ (ts : Left). stops_nothing ts in
      Warns-later _ _ (λ _. read.keyword (codes "pattern")) _ nothing (exact-word {q = true} {n = n} {l = n} (codes "pattern") nothing refl) (λ _.
      Warns-later _ _ (λ _. read.keyword (codes "begin")) _ nothing (exact-word {q = true} {n = n} {l = n} (codes "begin") nothing refl) (λ _.
      Warns-later _ _ (λ _. read.sign (codes "(")) _ nothing (exact-symbol {q = true} {n = n} {l = n} (codes "(") nothing refl) (λ _.
      Warns-later _ _ (λ _. read.one stage_name) _ nothing (exact-stage_name {q = true} {n = n} {l = n}) (λ name.
      Warns-later _ _ (λ _. read.sign (codes ")")) _ nothing (exact-symbol {q = true} {n = n} {l = n} (codes ")") nothing refl) (λ _.
      Warns-first _ _ _ (Warns-same n _ _ _ (λ k. up_to_stages_of (deep k) name) (λ k. up_to_links_of (deep k) name) (warns-chain (started name)))
      (λ built. end_quiet _))
      (λ k a back rest h. none (back ++ rest)))
      (λ k a back rest h. none (back ++ rest)))
      (λ k a back rest h. none (back ++ rest)))
      (λ k a back rest h. none (back ++ rest)))
      (λ k a back rest h. none (back ++ rest))

-- ---- the file

-- what may go on a file
abbrev pub goes_on_file : Lexeme → Bool
goes_on_file t = word (codes "select") t || word (codes "skip") t

file_parts : (ts : Left) → Stops goes_on_file ts → (Stops (word (codes "select")) ts) × (Stops (word (codes "skip")) ts)
file_parts [] e = (refl, refl)
file_parts (t ∷ ts) e = or_false (word (codes "select") t) (word (codes "skip") t) e

select_is_no_skip : (ts : Left) → next_is (word (codes "select")) ts ≡ true → Stops (word (codes "skip")) ts
select_is_no_skip [] e = refl
select_is_no_skip (t ∷ ts) e = same_word (codes "select") (codes "skip") t e

-- behind the skip comes a select or nothing
no_second_skip : (e : Rule SynExpr) (used rest : Left) (a : Option (List SynExpr)) → rule.maybe (grammar.select e) used a → Stops goes_on_file rest → Stops (word (codes "skip")) (used ++ rest)
no_second_skip e used rest a (inl h) stops = select_is_no_skip (used ++ rest) ((starts-then _ _ (word (codes "select")) (starts-select e)).begins used rest a h)
no_second_skip e used rest a (inr h) stops = subst (λ ts. Stops (word (codes "skip")) (ts ++ rest)) (sym h.0) (file_parts rest stops).1

abbrev file_of : List TypeDecl → List Opener × Limits → Option SkipDecl → Option (List SynExpr) → File
file_of types found after shown = record {
  types = types;
  openers = found.0;
  within = found.1.within;
  within_gap = found.1.within_gap;
  skip = after;
  select = shown;
}

pattern_is_no_event : (ts : Left) → next_is (word (codes "pattern")) ts ≡ true → Stops (word (codes "event")) ts
pattern_is_no_event [] e = refl
pattern_is_no_event (t ∷ ts) e = same_word (codes "pattern") (codes "event") t e

module _ {n : ℕ} where
  -- what comes behind the pattern
  exact-rest : {q : Bool} (types : List TypeDecl) (found : List Opener × Limits)
      → Exact q n n (λ k. rule.◌>>=◌ (rule.maybe grammar.skip)
      (λ after. rule.◌>>=◌ (rule.maybe (grammar.select (deep k))) (λ shown. rule.pure (file_of types found after shown))))
      (λ m. read.◌>>=◌ reader.maybe_skip (λ after. read.◌>>=◌ (reader.maybe_select m) (λ shown. read.pure (file_of types found after shown)))) goes_on_file
  exact-rest types found =
      Exact-then _ _ _ _ (word (codes "skip")) goes_on_file exact-maybe_skip
      (λ after. Exact-made (file_of types found after) _ _ goes_on_file (Exact-narrower _ _ (word (codes "select")) goes_on_file exact-maybe_select (λ ts e. (file_parts ts e).0)))
      (λ k after f back rest h stops.
      let is : back ≡ h.front = h.is ∙ ap (λ ts. h.front ++ ts) h.second.0 ∙ append-nil h.front in
      subst (λ ts. Stops (word (codes "skip")) (ts ++ rest)) (sym is) (no_second_skip (deep k) h.front rest h.value h.first stops))

  pub exact-file : Exact false n n (λ k. grammar.file (deep k)) reader.file goes_on_file
  unfolding grammar.file reader.file
  exact-file =
      Exact-before _ _ _ _ (word (codes "event")) goes_on_file (word (codes "pattern")) exact-declarations
      (λ types. Exact-last _ _ _ _ goes_on_file exact-pattern (λ found. exact-rest types found))
      (λ k types. starts-then _ _ (word (codes "pattern")) (starts-pattern (deep k)))
      (λ t e. same_word (codes "pattern") (codes "event") t e)

  -- where the reader stops at `greedy`: behind a dot that comes behind a stage
  pub warns-file : Warns n (reader.file n) (λ k. grammar.before_modifier (deep k))
  unfolding grammar.before_modifier reader.file
  warns-file =
      Warns-later _ _ reader.declarations _ (word (codes "event")) (exact-declarations {q = true})
      (λ types. Warns-first _ _ _ warns-pattern (λ found. (exact-rest {q = true} types found).quiet refl))
      (λ k types back rest h. pattern_is_no_event (back ++ rest) ((starts-then _ _ (word (codes "pattern")) (starts-word (codes "pattern"))).begins back rest tt h))
