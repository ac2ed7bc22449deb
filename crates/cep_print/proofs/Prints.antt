-- A text whose tokens a rule accepts, for a value that is the target but for its places. There is one lemma for each word of a grammar.
use Rattle.std.proofs.Common.{◌≡◌, ℕ, ◌≤◌, cond, Bool, true, false, inl, inr, List, [], ◌∷◌, ◌++◌, map, refl, sym, ◌∙◌, ap, subst, append_assoc, append-nil}
use Rattle.std.specs.Prelude.{Option, Some, None, decimal}
use Rattle.std.specs.Str.{bytes_eq}
use Rattle.std.proofs.lemmas.Slice.Eq.{bytes_eq-Decides}
use Rattle.cep_token.specs.declared.token.TokenKind.{TokenKind}
use Rattle.cep_token.specs.declared.token.TokenKind.TheVariants as kind
use Rattle.cep_token.specs.Piece.{is_blank}
use Rattle.cep_reading.specs.Lexeme.{Lexeme}
use Rattle.cep_token.specs.declared.token.TheConstants.{GREATEST_NUMBER}
use Rattle.cep_reading.specs.declared.name.Name.{Name}
use Rattle.cep_reading.specs.Terminal.{only, symbol, word, any_word, stage_name, stage_name_by, is_name, number}
use Rattle.cep_reading.specs.Rule.{Rule, InTurn, IsOne}
use Rattle.cep_reading.specs.Rule as rule
use Rattle.cep_reading.specs.Reading.{place_of}
use Rattle.cep_token.specs.Form.{is_word}
use Rattle.cep_print.specs.Literal.{Text, literal}
use Rattle.cep_print.specs.Same.{unplaced_name}
use Rattle.cep_print.proofs.Scanned.{front, soft, hard, no_need, hard_is_soft, Mark, mark, Scanned, scanned-none, scanned-append, scanned-token, scanned-blank, IsToken}
use Rattle.cep_print.proofs.Marks.{is_sign, is_token-word, word_begins, is_token-single, is_token-literal, content_of-literal, is_token-number, number_begins, value_of-decimal}

-- Behind the text may stand what passes `needs`. The value that the rule gives is seen as the target.
pub record Prints {A V : Type 0} (r : Rule A) (view : A → V) (target : V) (needs : ℕ → Bool) (z : Text) (marks : List Mark) : Type 0 where
  pub weak : (b : ℕ) → needs b ≡ true → soft b ≡ true
  pub scan : Scanned needs z marks
  pub begins : (rest : Text) → soft (front rest) ≡ true → soft (front (z ++ rest)) ≡ true
  pub means : (used : List Lexeme) → map mark used ≡ marks → (y : A) × r used y × (view y ≡ target)

-- the text, whatever its tokens are
abbrev pub Printed : {A V : Type 0} → Rule A → (A → V) → V → (ℕ → Bool) → Text → Type 0
Printed r view target needs z = (marks : List Mark) × Prints r view target needs z marks

-- ---- lists of tokens

no_mark : (used : List Lexeme) → map mark used ≡ [] → used ≡ []
no_mark [] e = refl
no_mark (t ∷ used) e = cc

abbrev first_mark : Mark → List Mark → Mark
first_mark d [] = d
first_mark d (m ∷ ms) = m

abbrev other_marks : List Mark → List Mark
other_marks [] = []
other_marks (m ∷ ms) = ms

-- tokens whose marks are two lists are two lists
pub record IsSplit (used : List Lexeme) (marks others : List Mark) : Type 0 where
  pub front : List Lexeme
  pub back : List Lexeme
  pub is : used ≡ front ++ back
  pub first : map mark front ≡ marks
  pub second : map mark back ≡ others

pub split : (used : List Lexeme) (marks others : List Mark) → map mark used ≡ marks ++ others → IsSplit used marks others
split used [] others e = record { front = []; back = used; is = refl; first = refl; second = e }
split [] (m ∷ ms) others e = cc
split (t ∷ used) (m ∷ ms) others e =
    let later = split used ms others (ap other_marks e) in
    record {
      front = t ∷ later.front;
      back = later.back;
      is = ap (λ l. t ∷ l) later.is;
      first = (λ i. first_mark m (e i) ∷ later.first i);
      second = later.second;
    }

-- ---- the words of a grammar

pub Prints-pure : {A V : Type 0} (a : A) (view : A → V) (needs : ℕ → Bool) → ((b : ℕ) → needs b ≡ true → soft b ≡ true)
    → Prints (rule.pure a) view (view a) needs [] []
Prints-pure a view needs weak = record {
  weak = weak;
  scan = scanned-none needs;
  begins = λ rest may. may;
  means = λ used e. (a, (no_mark used e, refl), refl);
}

-- the value that was printed stands for the others that look so
pub Prints-then :
    {A B V W : Type 0} (r : Rule A) (s : A → Rule B) (view : A → V) (see : B → W) (x : A) (target : V) (goal : W) (needs later : ℕ → Bool)
    (z w : Text) (marks others : List Mark)
    → view x ≡ target → Prints r view target needs z marks → ((y : A) → view y ≡ target → Prints (s y) see goal later w others)
    → ((rest : Text) → later (front rest) ≡ true → needs (front (w ++ rest)) ≡ true)
    → Prints (rule.◌>>=◌ r s) see goal later (z ++ w) (marks ++ others)
Prints-then r s view see x target goal needs later z w marks others is first second so = record {
  weak = (second x is).weak;
  scan = scanned-append needs later z w marks others first.scan (second x is).scan so;
  begins = λ rest may. subst (λ l. soft (front l) ≡ true) (sym (append_assoc z w rest)) (first.begins (w ++ rest) ((second x is).begins rest may));
  means = λ used e.
      let parts = split used marks others e in
      let a = first.means parts.front parts.first in
      let b = (second a.0 a.2).means parts.back parts.second in
      (b.0, record { front = parts.front; back = parts.back; value = a.0; is = parts.is; first = a.1; second = b.1 }, b.2);
}

-- behind what needs no more than what each text begins with
pub softly : {B W : Type 0} (s : Rule B) (see : B → W) (goal : W) (later : ℕ → Bool) (w : Text) (others : List Mark)
    → Prints s see goal later w others → (rest : Text) → later (front rest) ≡ true → soft (front (w ++ rest)) ≡ true
softly s see goal later w others p rest may = p.begins rest (p.weak (front rest) may)

pub harder : {A V : Type 0} (r : Rule A) (view : A → V) (target : V) (z : Text) (marks : List Mark) → Prints r view target soft z marks
    → Prints r view target hard z marks
harder r view target z marks p = record {
  weak = hard_is_soft;
  scan = record { scan = λ before rest may. p.scan.scan before rest (hard_is_soft (front rest) may) };
  begins = p.begins;
  means = p.means;
}

-- a value is made of another
pub Prints-made :
    {A B V W : Type 0} (r : Rule A) (make : A → B) (view : A → V) (see : B → W) (target : V) (goal : W) (needs : ℕ → Bool) (z : Text)
    (marks : List Mark)
    → Prints r view target needs z marks → ((y : A) → view y ≡ target → see (make y) ≡ goal)
    → Prints (rule.◌>>=◌ r (λ y. rule.pure (make y))) see goal needs z marks
Prints-made r make view see target goal needs z marks p so = record {
  weak = p.weak;
  scan = p.scan;
  begins = p.begins;
  means = λ used e.
      let a = p.means used e in
      (make a.0, record { front = used; back = []; value = a.0; is = sym (append-nil used); first = a.1; second = (refl, refl) }, so a.0 a.2);
}

pub Prints-left : {A V : Type 0} (r s : Rule A) (view : A → V) (target : V) (needs : ℕ → Bool) (z : Text) (marks : List Mark)
    → Prints r view target needs z marks → Prints (rule.◌or◌ r s) view target needs z marks
Prints-left r s view target needs z marks p = record {
  weak = p.weak;
  scan = p.scan;
  begins = p.begins;
  means = λ used e. let a = p.means used e in (a.0, inl a.1, a.2);
}

pub Prints-right : {A V : Type 0} (r s : Rule A) (view : A → V) (target : V) (needs : ℕ → Bool) (z : Text) (marks : List Mark)
    → Prints s view target needs z marks → Prints (rule.◌or◌ r s) view target needs z marks
Prints-right r s view target needs z marks p = record {
  weak = p.weak;
  scan = p.scan;
  begins = p.begins;
  means = λ used e. let a = p.means used e in (a.0, inr a.1, a.2);
}

-- another view of the values
pub Prints-seen : {A V W : Type 0} (r : Rule A) (view : A → V) (see : A → W) (target : V) (goal : W) (needs : ℕ → Bool) (z : Text) (marks : List Mark)
    → Prints r view target needs z marks → ((y : A) → view y ≡ target → see y ≡ goal) → Prints r see goal needs z marks
Prints-seen r view see target goal needs z marks p so = record {
  weak = p.weak;
  scan = p.scan;
  begins = p.begins;
  means = λ used e. let a = p.means used e in (a.0, a.1, so a.0 a.2);
}

pub Prints-placed : {A V : Type 0} (r : Rule A) (view : A → V) (target : V) (needs : ℕ → Bool) (z : Text) (marks : List Mark)
    → Prints r view target needs z marks → Prints (rule.placed r) (λ found. view found.1) target needs z marks
Prints-placed r view target needs z marks p = record {
  weak = p.weak;
  scan = p.scan;
  begins = p.begins;
  means = λ used e. let a = p.means used e in ((place_of used, a.0), (a.1, refl), a.2);
}

-- ---- lists

pub Prints-no_more : {A V : Type 0} (r : Rule A) (view : A → V) (needs : ℕ → Bool) → ((b : ℕ) → needs b ≡ true → soft b ≡ true)
    → Prints (rule.many r) (map view) [] needs [] []
Prints-no_more r view needs weak = record {
  weak = weak;
  scan = scanned-none needs;
  begins = λ rest may. may;
  means = λ used e. ([], no_mark used e, refl);
}

pub Prints-more : {A V : Type 0} (r : Rule A) (view : A → V) (target : V) (targets : List V) (needs later : ℕ → Bool) (z w : Text) (marks others : List Mark)
    → Prints r view target needs z marks → Prints (rule.many r) (map view) targets later w others
    → ((rest : Text) → later (front rest) ≡ true → needs (front (w ++ rest)) ≡ true)
    → Prints (rule.many r) (map view) (target ∷ targets) later (z ++ w) (marks ++ others)
Prints-more r view target targets needs later z w marks others first more so = record {
  weak = more.weak;
  scan = scanned-append needs later z w marks others first.scan more.scan so;
  begins = λ rest may. subst (λ l. soft (front l) ≡ true) (sym (append_assoc z w rest)) (first.begins (w ++ rest) (more.begins rest may));
  means = λ used e.
      let parts = split used marks others e in
      let a = first.means parts.front parts.first in
      let b = more.means parts.back parts.second in
      (a.0 ∷ b.0, (parts.front, parts.back, parts.is, a.1, b.1), λ i. a.2 i ∷ b.2 i);
}

-- ---- blanks

-- a blank before
pub Prints-blank_before : {A V : Type 0} (r : Rule A) (view : A → V) (target : V) (needs : ℕ → Bool) (z : Text) (marks : List Mark)
    → Prints r view target needs z marks → Prints r view target needs (32 ∷ z) marks
Prints-blank_before r view target needs z marks p = record {
  weak = p.weak;
  scan = scanned-append no_need needs (32 ∷ []) z [] marks (scanned-blank 32 no_need refl) p.scan (λ rest may. refl);
  begins = λ rest may. refl;
  means = p.means;
}

-- a blank behind
pub Prints-blank_behind : {A V : Type 0} (r : Rule A) (view : A → V) (target : V) (needs : ℕ → Bool) (b : ℕ) (z : Text) (marks : List Mark)
    → is_blank b ≡ true → needs b ≡ true → soft b ≡ true → Prints r view target needs z marks → Prints r view target soft (z ++ b ∷ []) marks
Prints-blank_behind r view target needs b z marks blank may is_soft p = record {
  weak = λ c e. e;
  scan =
      subst (Scanned soft (z ++ b ∷ [])) (append-nil marks)
      (scanned-append needs soft z (b ∷ []) marks [] p.scan (scanned-blank b soft blank) (λ rest any. may));
  begins = λ rest any. subst (λ l. soft (front l) ≡ true) (sym (append_assoc z (b ∷ []) rest)) (p.begins (b ∷ rest) is_soft);
  means = p.means;
}

-- ---- single tokens

lexeme_is : (t : Lexeme) (k : TokenKind) (z : Text) (ms : List Mark) (used : List Lexeme) → map mark (t ∷ used) ≡ (k, z) ∷ []
    → t ≡ record { kind = k; text = z; place = t.place }
lexeme_is t k z ms used e = let is : mark t ≡ (k, z) = ap (first_mark (k, z)) e in λ i. record { kind = (is i).0; text = (is i).1; place = t.place }

-- what a rule of one token accepts
abbrev Gives : {A V : Type 0} → (Lexeme → Option A) → (A → V) → V → TokenKind → Text → Type 0
Gives {A} f view target k z = (place : ℕ) → (y : A) × (f (record { kind = k; text = z; place = place }) ≡ Some y) × (view y ≡ target)

one_means : {A V : Type 0} (f : Lexeme → Option A) (view : A → V) (target : V) (k : TokenKind) (z : Text) → Gives f view target k z
    → (used : List Lexeme) → map mark used ≡ (k, z) ∷ [] → (y : A) × IsOne f used y × (view y ≡ target)
one_means f view target k z gives [] e = cc
one_means f view target k z gives (t ∷ used) e =
    let a = gives t.place in
    (a.0, record { token = t; is = ap (λ l. t ∷ l) (no_mark used (ap other_marks e)); gives = ap f (lexeme_is t k z [] used e) ∙ a.1 }, a.2)

pub Prints-one : {A V : Type 0} (f : Lexeme → Option A) (view : A → V) (target : V) (k : TokenKind) (z : Text) (needs : ℕ → Bool)
    → ((b : ℕ) → needs b ≡ true → soft b ≡ true) → IsToken k z needs → ((rest : Text) → soft (front rest) ≡ true → soft (front (z ++ rest)) ≡ true)
    → Gives f view target k z → Prints (rule.one f) view target needs z ((k, z) ∷ [])
Prints-one f view target k z needs weak token begins gives = record {
  weak = weak;
  scan = scanned-token k z needs token;
  begins = begins;
  means = one_means f view target k z gives;
}

-- a blank on both sides
pub Prints-spaced : {A V : Type 0} (f : Lexeme → Option A) (view : A → V) (target : V) (k : TokenKind) (z : Text) (needs : ℕ → Bool)
    → needs 32 ≡ true → IsToken k z needs
    → Gives f view target k z → Prints (rule.one f) view target soft (32 ∷ (z ++ 32 ∷ [])) ((k, z) ∷ [])
Prints-spaced f view target k z needs may token gives = record {
  weak = λ c e. e;
  scan = scanned-append no_need soft (32 ∷ []) (z ++ 32 ∷ []) [] ((k, z) ∷ []) (scanned-blank 32 no_need refl)
      (scanned-append needs soft z (32 ∷ []) ((k, z) ∷ []) [] (scanned-token k z needs token) (scanned-blank 32 soft refl) (λ rest any. may))
      (λ rest any. refl);
  begins = λ rest any. refl;
  means = one_means f view target k z gives;
}

same_bytes : (z : Text) → bytes_eq z z ≡ true
same_bytes z = (bytes_eq-Decides z z).1 refl

abbrev pub unseen : Unit {0} → Unit {0}
unseen u = tt

pub soft_stays : (b : ℕ) → soft b ≡ true → soft b ≡ true
soft_stays b e = e

abbrev some_unit : Option (Unit {0})
some_unit = Some tt

only_is : (b : Bool) → b ≡ true → cond b some_unit None ≡ some_unit
only_is true e = refl
only_is false e = cc

pub Prints-sign : (s : ℕ) → is_sign s ≡ true → soft s ≡ true → Prints (rule.sign (s ∷ [])) unseen tt soft (s ∷ []) ((kind.Symbol, s ∷ []) ∷ [])
Prints-sign s e f = Prints-one (only (symbol (s ∷ []))) unseen tt kind.Symbol (s ∷ []) soft soft_stays (is_token-single s e) (λ rest may. f)
    (λ place. (tt, only_is (bytes_eq (s ∷ []) (s ∷ [])) (same_bytes (s ∷ [])), refl))

pub Prints-keyword : (z : Text) → is_word z ≡ true → Prints (rule.keyword z) unseen tt hard z ((kind.Word, z) ∷ [])
Prints-keyword z e = Prints-one (only (word z)) unseen tt kind.Word z hard hard_is_soft (is_token-word z e) (λ rest may. word_begins z rest e)
    (λ place. (tt, only_is (bytes_eq z z) (same_bytes z), refl))

-- a symbol, and then another rule
pub sign_then : {B W : Type 0} (s : ℕ) (r : Rule B) (see : B → W) (goal : W) (later : ℕ → Bool) (w : Text) (others : List Mark) → is_sign s ≡ true
    → soft s ≡ true
    → Prints r see goal later w others → Prints (rule.◌>>◌ (rule.sign (s ∷ [])) r) see goal later (s ∷ w) ((kind.Symbol, s ∷ []) ∷ others)
sign_then s r see goal later w others e f p =
    Prints-then (rule.sign (s ∷ [])) (λ _. r) unseen see tt tt goal soft later (s ∷ []) w ((kind.Symbol, s ∷ []) ∷ []) others refl
    (Prints-sign s e f) (λ y is. p) (softly r see goal later w others p)

-- a symbol at the end
pub sign_last : {B W : Type 0} (s : ℕ) (b : B) (see : B → W) (goal : W) → is_sign s ≡ true → soft s ≡ true → see b ≡ goal
    → Prints (rule.◌>>◌ (rule.sign (s ∷ [])) (rule.pure b)) see goal soft (s ∷ []) ((kind.Symbol, s ∷ []) ∷ [])
sign_last s b see goal e f is =
    sign_then s (rule.pure b) see goal soft [] [] e f (subst (λ g. Prints (rule.pure b) see g soft [] []) is (Prints-pure b see soft soft_stays))

-- a word, and then another rule, which begins with no letter
pub word_then : {B W : Type 0} (z : Text) (r : Rule B) (see : B → W) (goal : W) (later : ℕ → Bool) (w : Text) (others : List Mark) → is_word z ≡ true
    → ((rest : Text) → later (front rest) ≡ true → hard (front (w ++ rest)) ≡ true)
    → Prints r see goal later w others → Prints (rule.◌>>◌ (rule.keyword z) r) see goal later (z ++ w) ((kind.Word, z) ∷ others)
word_then z r see goal later w others e so p =
    Prints-then (rule.keyword z) (λ _. r) unseen see tt tt goal hard later z w ((kind.Word, z) ∷ []) others refl (Prints-keyword z e) (λ y is. p) so

-- ---- names and numbers

some_is : {A : Type 0} {x y : A} → Some x ≡ Some y → x ≡ y
some_is h = cc

pub softer : (z : Text) → IsToken kind.Literal z no_need → IsToken kind.Literal z soft
softer z t = record { some = t.some; is = λ rest may. t.is rest refl }

pub Prints-any_word : (name : Name) → is_word name.text ≡ true
    → Prints (rule.one any_word) unplaced_name (unplaced_name name) hard name.text ((kind.Word, name.text) ∷ [])
unfolding any_word
Prints-any_word name e =
    Prints-one any_word unplaced_name (unplaced_name name) kind.Word name.text hard hard_is_soft (is_token-word name.text e)
    (λ rest may. word_begins name.text rest e)
    (λ place. (record { text = name.text; place = place }, refl, refl))

name_given : (text : Text) (place : ℕ) → is_name text ≡ true → stage_name_by kind.Literal (literal text) place ≡ Some (record { text = text; place = place })
name_given text place e =
    let c = content_of-literal text in
    (λ i. cond (is_name (c i)) (Some (record { text = c i; place = place })) None) ∙ ap (λ b. cond b (Some (record { text = text; place = place })) None) e

pub Prints-stage_name : (name : Name) → is_name name.text ≡ true
    → Prints (rule.one stage_name) unplaced_name (unplaced_name name) soft (literal name.text) ((kind.Literal, literal name.text) ∷ [])
unfolding stage_name
Prints-stage_name name e =
    Prints-one stage_name unplaced_name (unplaced_name name) kind.Literal (literal name.text) soft soft_stays
    (softer (literal name.text) (is_token-literal name.text)) (λ rest may. refl)
    (λ place. (record { text = name.text; place = place }, name_given name.text place e, refl))

pub Prints-number : (n : ℕ) → n ≤ GREATEST_NUMBER → Prints (rule.one number) (λ x. x) n hard (decimal n) ((kind.Number, decimal n) ∷ [])
unfolding number
Prints-number n le = Prints-one number (λ x. x) n kind.Number (decimal n) hard hard_is_soft (is_token-number n le) (λ rest may. number_begins n rest le)
    (λ place. (n, ap Some (value_of-decimal n le), refl))
