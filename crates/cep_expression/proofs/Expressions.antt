-- The reader of expressions against their grammar.
use Rattle.std.proofs.Common.{◌≡◌, ℕ, zero, suc, ◌≤◌, Bool, true, false, ◌||◌, cond, inl, inr, List, [], ◌∷◌, ◌++◌, length, refl, sym, ◌∙◌, ap, subst, arith, append-nil}
use Rattle.std.specs.Prelude.{codes, Option, Some, None}
use Rattle.std.specs.Str.{bytes_eq}
use Rattle.cep_token.specs.declared.token.TokenKind.{TokenKind}
use Rattle.cep_token.specs.declared.token.TokenKind.TheVariants as token
use Rattle.cep_reading.specs.Lexeme.{Lexeme}
use Rattle.cep_reading.specs.Terminal.{only, symbol, is_symbol, is_word, any_word, is_any_word, stage_name}
use Rattle.cep_reading.specs.Reading.{Left, Reader, next_is, place_of}
use Rattle.cep_reading.specs.Reading as read
use Rattle.cep_reading.specs.Rule.{Rule, IsOne, InTurn}
use Rattle.cep_reading.specs.Rule as rule
use Rattle.cep_reading.proofs.Laws.{TakesSome, Stops, StartsWith, Complete, Agrees, Agrees-spent, Agrees-with_spent, err_value, Word, between_items}
use Rattle.cep_reading.proofs.Starts.{Avoids, avoids_by, avoids-one, avoids-or, avoids-then, avoids-placed, starts-one, starts-symbol, starts-then, starts-or, starts-placed, takes-one, takes-then, takes-or, takes-placed, takes-starts, some_if, or_false, same_symbol, word_is_no_symbol}
use Rattle.cep_reading.proofs.Quiet.{Quiet-spent}
use Rattle.cep_reading.proofs.Exact.{Exact, nothing, stops_nothing, Exact-pure, Exact-one, exact-symbol, Exact-then, Exact-after, Exact-last, Exact-last_after, Exact-before, Exact-made, Exact-choose, Exact-maybe, Exact-placed, Exact-same, Exact-narrower, Exact-fewer, Exact-many}
use Rattle.cep_expression.specs.declared.aggregate.Call.{Call}
use Rattle.cep_expression.specs.declared.aggregate.Call.TheVariants.{Count as CountOf, Edge, Total}
use Rattle.cep_expression.specs.declared.expr.Cmp.{Cmp}
use Rattle.cep_expression.specs.declared.expr.Cmp.TheVariants as cmp
use Rattle.cep_expression.specs.declared.expr.How.{How}
use Rattle.cep_expression.specs.declared.expr.How.TheVariants as how
use Rattle.cep_expression.specs.declared.expr.SynExpr.{SynExpr}
use Rattle.cep_expression.specs.declared.expr.SynNode.{SynNode}
use Rattle.cep_expression.specs.declared.expr.SynNode.TheVariants.{Int, Count, Of}
use Rattle.cep_expression.specs.declared.sign.Prefix.{Prefix}
use Rattle.cep_expression.specs.declared.sign.Prefix.TheVariants as prefix
use Rattle.cep_expression.specs.Terminal as terminal
use Rattle.cep_expression.specs.Terminal.{some_symbol, constant, plain, call, meaning, call_of, plain_word, prefix_sign, is_prefix_sign, factor_sign, is_factor_sign, term_sign, is_term_sign, comparator, is_comparator}
use Rattle.cep_expression.specs.Grammar as grammar
use Rattle.cep_expression.specs.Reader as reader
use Rattle.cep_expression.proofs.Signs.{among, same_symbols, apart, no_symbols}

-- ---- what may go on an operand

abbrev open_sign : Lexeme → Bool
open_sign = symbol (codes "(")

abbrev after_product : Lexeme → Bool
after_product t = is_factor_sign t || open_sign t

abbrev after_sum : Lexeme → Bool
after_sum t = is_term_sign t || after_product t

abbrev after_comparison : Lexeme → Bool
after_comparison t = is_comparator t || after_sum t

abbrev after_all : Lexeme → Bool
after_all t = symbol (codes "&&") t || after_comparison t

-- what may go on an expression
abbrev pub goes_on : Lexeme → Bool
goes_on t = symbol (codes "||") t || after_all t

abbrev plus_minus : List (List ℕ)
plus_minus = codes "+" ∷ codes "-" ∷ []

abbrev times_over : List (List ℕ)
times_over = codes "*" ∷ codes "/" ∷ codes "%" ∷ []

abbrev comparators : List (List ℕ)
comparators = codes "==" ∷ codes "!=" ∷ codes "<" ∷ codes "<=" ∷ codes ">" ∷ codes ">=" ∷ []

opens : (t : Lexeme) → some_symbol (codes "(" ∷ []) t ≡ false → open_sign t ≡ false
opens t e = (or_false (open_sign t) false e).0

-- a symbol that is none of these ends an expression
pub symbol_ends : (text : List ℕ) (t : Lexeme) → bytes_eq text (codes "||") ≡ false → bytes_eq text (codes "&&") ≡ false → among text comparators ≡ false → among text plus_minus ≡ false → among text times_over ≡ false
    → bytes_eq text (codes "(") ≡ false → symbol text t ≡ true → goes_on t ≡ false
symbol_ends text t or_ and_ cs ts fs open_ e =
    let p0 = same_symbol text (codes "||") t e ∙ or_ in
    let p1 = same_symbol text (codes "&&") t e ∙ and_ in
    let p2 = same_symbols text comparators t e ∙ cs in
    let p3 = same_symbols text plus_minus t e ∙ ts in
    let p4 = same_symbols text times_over t e ∙ fs in
    let p5 = same_symbol text (codes "(") t e ∙ open_ in
    λ i. p0 i || (p1 i || (p2 i || (p3 i || (p4 i || p5 i))))

pub close_ends : (t : Lexeme) → symbol (codes ")") t ≡ true → goes_on t ≡ false
close_ends t e = symbol_ends (codes ")") t refl refl refl refl refl refl e

pub comma_ends : (t : Lexeme) → symbol (codes ",") t ≡ true → goes_on t ≡ false
comma_ends t e = symbol_ends (codes ",") t refl refl refl refl refl refl e

pub semicolon_ends : (t : Lexeme) → symbol (codes ";") t ≡ true → goes_on t ≡ false
semicolon_ends t e = symbol_ends (codes ";") t refl refl refl refl refl refl e

-- ---- the signs

prefix_sign_is : (t : Lexeme) (o : Prefix) → prefix_sign t ≡ Some o → is_prefix_sign t ≡ true
unfolding prefix_sign
prefix_sign_is t o e = cases (symbol (codes "!") t) (symbol (codes "-") t) e where
  cases : (a b : Bool) → cond a (Some prefix.Not) (cond b (Some prefix.Neg) None) ≡ Some o → a || (b || false) ≡ true
  cases true b h = refl
  cases false true h = refl
  cases false false h = cc

factor_sign_is : (t : Lexeme) (o : How) → factor_sign t ≡ Some o → is_factor_sign t ≡ true
unfolding factor_sign
factor_sign_is t o e = cases (symbol (codes "*") t) (symbol (codes "/") t) (symbol (codes "%") t) e where
  cases : (a b c : Bool) → cond a (Some how.Times) (cond b (Some how.Over) (cond c (Some how.Rest) None)) ≡ Some o → a || (b || (c || false)) ≡ true
  cases true b c h = refl
  cases false true c h = refl
  cases false false true h = refl
  cases false false false h = cc

term_sign_is : (t : Lexeme) (o : Bool) → term_sign t ≡ Some o → is_term_sign t ≡ true
unfolding term_sign
term_sign_is t o e = cases (symbol (codes "+") t) (symbol (codes "-") t) e where
  cases : (a b : Bool) → cond a (Some false) (cond b (Some true) None) ≡ Some o → a || (b || false) ≡ true
  cases true b h = refl
  cases false true h = refl
  cases false false h = cc

comparator_is : (t : Lexeme) (o : Cmp) → comparator t ≡ Some o → is_comparator t ≡ true
unfolding comparator
comparator_is t o e = cases (symbol (codes "==") t) (symbol (codes "!=") t) (symbol (codes "<") t) (symbol (codes "<=") t) (symbol (codes ">") t) (symbol (codes ">=") t) e where
  cases : (a b c d f g : Bool)
      → cond a (Some cmp.Eq) (cond b (Some cmp.Ne) (cond c (Some cmp.Lt) (cond d (Some cmp.Le) (cond f (Some cmp.Gt) (cond g (Some cmp.Ge) None)))))
      ≡ Some o → a || (b || (c || (d || (f || (g || false))))) ≡ true
  cases true b c d f g h = refl
  cases false true c d f g h = refl
  cases false false true d f g h = refl
  cases false false false true f g h = refl
  cases false false false false true g h = refl
  cases false false false false false true h = refl
  cases false false false false false false h = cc

abbrev sign_token : List ℕ → Lexeme
sign_token text = record { kind = token.Symbol; text = text; place = 0 }

module _ {q : Bool} {n l : ℕ} where
  exact-prefix_sign : Exact q n l (λ _. rule.one prefix_sign) (λ _. read.one prefix_sign) nothing
  unfolding prefix_sign
  exact-prefix_sign = Exact-one prefix_sign (sign_token (codes "!")) prefix.Not nothing refl

  exact-factor_sign : Exact q n l (λ _. rule.one factor_sign) (λ _. read.one factor_sign) nothing
  unfolding factor_sign
  exact-factor_sign = Exact-one factor_sign (sign_token (codes "*")) how.Times nothing refl

  exact-term_sign : Exact q n l (λ _. rule.one term_sign) (λ _. read.one term_sign) nothing
  unfolding term_sign
  exact-term_sign = Exact-one term_sign (sign_token (codes "+")) false nothing refl

  exact-comparator : Exact q n l (λ _. rule.one comparator) (λ _. read.one comparator) nothing
  unfolding comparator
  exact-comparator = Exact-one comparator (sign_token (codes "==")) cmp.Eq nothing refl

  -- ---- names

  pub exact-any_word : Exact q n l (λ _. rule.one any_word) (λ _. read.one any_word) nothing
  unfolding any_word
  exact-any_word = Exact-one any_word (record { kind = token.Word; text = codes "a"; place = 0 }) (record { text = codes "a"; place = 0 }) nothing refl

  pub exact-stage_name : Exact q n l (λ _. rule.one stage_name) (λ _. read.one stage_name) nothing
  unfolding stage_name
  exact-stage_name = Exact-one stage_name (record { kind = token.Literal; text = codes "\"a\""; place = 0 }) (record { text = codes "a"; place = 0 }) nothing refl

  -- ---- primaries of words and constants

  exact-arguments : (c : Call) → Exact q n l (λ _. grammar.arguments c) (λ _. reader.arguments c) nothing
  unfolding reader.count_arguments reader.edge_arguments reader.total_arguments
  exact-arguments CountOf =
      Exact-last _ _ _ _ nothing (exact-symbol (codes "(") nothing refl) (λ _.
      Exact-last _ _ _ _ nothing exact-stage_name (λ name.
      Exact-last _ _ _ _ nothing (exact-symbol (codes ")") nothing refl) (λ _. Exact-pure (Count name) nothing)))
  exact-arguments (Edge way) =
      Exact-last _ _ _ _ nothing (exact-symbol (codes "(") nothing refl) (λ _.
      Exact-last _ _ _ _ nothing exact-stage_name (λ name.
      Exact-last _ _ _ _ nothing (exact-symbol (codes ")") nothing refl) (λ _.
      Exact-last _ _ _ _ nothing (exact-symbol (codes ".") nothing refl) (λ _.
      Exact-last _ _ _ _ nothing exact-any_word (λ field. Exact-pure (Of way name field) nothing)))))
  exact-arguments (Total way) =
      Exact-last _ _ _ _ nothing (exact-symbol (codes "(") nothing refl) (λ _.
      Exact-last _ _ _ _ nothing exact-stage_name (λ name.
      Exact-last _ _ _ _ nothing (exact-symbol (codes ".") nothing refl) (λ _.
      Exact-last _ _ _ _ nothing exact-any_word (λ field.
      Exact-last _ _ _ _ nothing (exact-symbol (codes ")") nothing refl) (λ _. Exact-pure (Of way name field) nothing)))))

starts-arguments : (c : Call) → StartsWith (grammar.arguments c) open_sign
starts-arguments CountOf = starts-then _ _ open_sign (starts-symbol (codes "("))
starts-arguments (Edge way) = starts-then _ _ open_sign (starts-symbol (codes "("))
starts-arguments (Total way) = starts-then _ _ open_sign (starts-symbol (codes "("))

-- what may come behind a word
abbrev behind : Option Call × SynNode → Rule SynNode
behind (None, v) = rule.pure v
behind (Some c, v) = rule.◌or◌ (grammar.arguments c) (rule.pure v)

-- what a Word says, in one step and in two

meaning_parts : (k : TokenKind) (text : List ℕ) (place : ℕ) (x : Option Call × SynNode) → terminal.meaning_by k text place ≡ Some x
    → (terminal.plain_by k text place ≡ Some x.1) × (terminal.call_by k text ≡ x.0)
meaning_parts token.Word text place x e = let is : (call_of text, plain_word text place) ≡ x = some_value e in (ap (λ y. Some y.1) is, ap (λ y. y.0) is) where
  some_value : {A : Type 0} {x y : A} → Some x ≡ Some y → x ≡ y
  some_value e = cc
meaning_parts token.Number text place x e = cc
meaning_parts token.Literal text place x e = cc
meaning_parts token.Symbol text place x e = cc

meaning_of_plain : (k : TokenKind) (text : List ℕ) (place : ℕ) (v : SynNode) → terminal.plain_by k text place ≡ Some v
    → terminal.meaning_by k text place ≡ Some (terminal.call_by k text, v)
meaning_of_plain token.Word text place v e = let is : plain_word text place ≡ v = cc in ap (λ y. Some (call_of text, y)) is
meaning_of_plain token.Number text place v e = cc
meaning_of_plain token.Literal text place v e = cc
meaning_of_plain token.Symbol text place v e = cc

plain_of_call : (k : TokenKind) (text : List ℕ) (place : ℕ) (c : Call) → terminal.call_by k text ≡ Some c
    → terminal.meaning_by k text place ≡ Some (Some c, plain_word text place)
plain_of_call token.Word text place c e = ap (λ y. Some (y, plain_word text place)) e
plain_of_call token.Number text place c e = cc
plain_of_call token.Literal text place c e = cc
plain_of_call token.Symbol text place c e = cc

abbrev word_rule : Rule SynNode
word_rule = rule.◌or◌ (rule.one plain) grammar.aggregate

abbrev in_two : Rule SynNode
in_two = rule.◌>>=◌ (rule.one meaning) behind

from_two : (used : Left) (v : SynNode) → in_two used v → word_rule used v
unfolding meaning plain call
from_two used v h = cases h.value h.first h.second where
  cases : (x : Option Call × SynNode) → IsOne meaning h.front x → behind x h.back v → word_rule used v
  cases (None, p) one b =
      let parts = meaning_parts one.token.kind one.token.text one.token.place (None, p) one.gives in
      inl (record { token = one.token; is = h.is ∙ ap (λ l. h.front ++ l) b.0 ∙ append-nil h.front ∙ one.is; gives = parts.0 ∙ ap Some (sym b.1) })
  cases (Some c, p) one (inl b) =
      let parts = meaning_parts one.token.kind one.token.text one.token.place (Some c, p) one.gives in
      inr (record { front = h.front; back = h.back; value = c; is = h.is; first = record { token = one.token; is = one.is; gives = parts.1 }; second = b })
  cases (Some c, p) one (inr b) =
      let parts = meaning_parts one.token.kind one.token.text one.token.place (Some c, p) one.gives in
      inl (record { token = one.token; is = h.is ∙ ap (λ l. h.front ++ l) b.0 ∙ append-nil h.front ∙ one.is; gives = parts.0 ∙ ap Some (sym b.1) })

to_two : (used : Left) (v : SynNode) → word_rule used v → in_two used v
unfolding meaning plain call
to_two used v (inl h) = record {
  front = used;
  back = [];
  value = (terminal.call_by h.token.kind h.token.text, v);
  is = sym (append-nil used);
  first = record { token = h.token; is = h.is; gives = meaning_of_plain h.token.kind h.token.text h.token.place v h.gives };
  second = nothing_behind (terminal.call_by h.token.kind h.token.text);
} where
  nothing_behind : (c : Option Call) → behind (c, v) [] v
  nothing_behind None = (refl, refl)
  nothing_behind (Some c) = inr (refl, refl)
to_two used v (inr h) = record {
  front = h.front;
  back = h.back;
  value = (Some h.value, plain_word h.first.token.text h.first.token.place);
  is = h.is;
  first =
      record {
        token = h.first.token;
        is = h.first.is;
        gives =
            plain_of_call h.first.token.kind h.first.token.text h.first.token.place h.value h.first.gives;
      };
  second = inl h.second;
}

-- ---- words are no symbols

plain_is_word : (k : TokenKind) (text : List ℕ) (place : ℕ) (v : SynNode) → terminal.plain_by k text place ≡ Some v → is_word k ≡ true
plain_is_word token.Word text place v e = refl
plain_is_word token.Number text place v e = cc
plain_is_word token.Literal text place v e = cc
plain_is_word token.Symbol text place v e = cc

call_is_word : (k : TokenKind) (text : List ℕ) (c : Call) → terminal.call_by k text ≡ Some c → is_word k ≡ true
call_is_word token.Word text c e = refl
call_is_word token.Number text c e = cc
call_is_word token.Literal text c e = cc
call_is_word token.Symbol text c e = cc

constant_is : (k : TokenKind) (text : List ℕ) (v : SynNode) → terminal.constant_by k text ≡ Some v → (is_word k ≡ false) × (is_symbol k ≡ false)
constant_is token.Word text v e = cc
constant_is token.Number text v e = (refl, refl)
constant_is token.Literal text v e = (refl, refl)
constant_is token.Symbol text v e = cc

starts-word_rule : StartsWith word_rule is_any_word
unfolding plain call
starts-word_rule =
    starts-or _ _ is_any_word (starts-one plain is_any_word (λ t v e. plain_is_word t.kind t.text t.place v e))
    (starts-then _ _ is_any_word (starts-one call is_any_word (λ t c e. call_is_word t.kind t.text c e)))

avoids-word_rule : (texts : List (List ℕ)) → Avoids word_rule (some_symbol texts)
avoids-word_rule texts = avoids_by word_rule is_any_word (some_symbol texts) starts-word_rule (λ t e. no_symbols texts t (word_is_no_symbol t.kind e))

avoids-constant : (texts : List (List ℕ)) → Avoids (rule.one constant) (some_symbol texts)
unfolding constant
avoids-constant texts = avoids-one constant (some_symbol texts) (λ t v e. no_symbols texts t (constant_is t.kind t.text v e).1)

constant_no_word : Avoids (rule.one constant) is_any_word
unfolding constant
constant_no_word = avoids-one constant is_any_word (λ t v e. (constant_is t.kind t.text v e).0)

abbrev node_rule : Rule SynNode
node_rule = rule.◌or◌ word_rule (rule.one constant)

abbrev leaf_rule : Rule SynExpr
leaf_rule = rule.◌>>=◌ (rule.placed node_rule) (λ found. rule.pure (grammar.at_first found))

avoids-leaf : (texts : List (List ℕ)) → Avoids leaf_rule (some_symbol texts)
avoids-leaf texts = avoids-then _ _ _ (avoids-placed _ _ (avoids-or _ _ _ (avoids-word_rule texts) (avoids-constant texts)))

takes-node : TakesSome node_rule
takes-node = takes-or _ _ (takes-starts _ is_any_word starts-word_rule) (takes-one constant)

module _ {q : Bool} {n l : ℕ} where
  exact-behind : (x : Option Call × SynNode) → Exact q n l (λ _. behind x) (λ _. reader.behind_word x) open_sign
  exact-behind (None, v) = Exact-pure v open_sign
  exact-behind (Some c, v) =
      Exact-choose open_sign _ _ _ _ open_sign
      (Exact-narrower _ _ nothing open_sign (exact-arguments c) (λ ts e. stops_nothing ts))
      (Exact-pure v open_sign)
      (λ k. starts-arguments c) (λ k used rest a h stops. subst (λ ts. Stops open_sign (ts ++ rest)) (sym h.0) stops)

  exact-meaning : Exact q n l (λ _. rule.one meaning) (λ _. read.one meaning) nothing
  unfolding meaning
  exact-meaning = Exact-one meaning (record { kind = token.Word; text = codes "true"; place = 0 }) (None, terminal.plain_word (codes "true") 0) nothing refl

  exact-constant : Exact q n l (λ _. rule.one constant) (λ _. read.one constant) nothing
  unfolding constant
  exact-constant = Exact-one constant (record { kind = token.Number; text = codes "0"; place = 0 }) (Int 0) nothing refl

  exact-word_node : Exact q n l (λ _. word_rule) (λ _. reader.word_node) open_sign
  unfolding reader.word_node
  exact-word_node =
      Exact-same (λ _. in_two) (λ _. word_rule) _ open_sign (λ k. from_two) (λ k. to_two)
      (Exact-last _ _ _ _ open_sign exact-meaning exact-behind)

  exact-leaf_node : Exact q n l (λ _. node_rule) (λ _. reader.leaf_node) open_sign
  unfolding reader.leaf_node
  exact-leaf_node =
      Exact-choose is_any_word _ _ _ _ open_sign exact-word_node (Exact-narrower _ _ nothing open_sign exact-constant (λ ts e. stops_nothing ts))
      (λ k. starts-word_rule) (λ k used rest a h stops. constant_no_word.stops used rest a h)

  exact-leaf : Exact q n l (λ _. leaf_rule) (λ _. reader.leaf) open_sign
  unfolding reader.leaf
  exact-leaf = Exact-made grammar.at_first _ _ open_sign (Exact-placed _ _ open_sign (λ k. takes-node) exact-leaf_node)

-- ---- chains of operands

stops_or : (p r : Lexeme → Bool) (ts : Left) → Stops (λ t. p t || r t) ts → (Stops p ts) × (Stops r ts)
stops_or p r [] e = (refl, refl)
stops_or p r (t ∷ ts) e = or_false (p t) (r t) e

stops_apart : (p r : Lexeme → Bool) → ((t : Lexeme) → p t ≡ true → r t ≡ false) → (ts : Left) → next_is p ts ≡ true → Stops r ts
stops_apart p r apart_ [] e = refl
stops_apart p r apart_ (t ∷ ts) e = apart_ t e

abbrev linked_rule : {O T : Type 0} → (Lexeme → Option O) → (O → SynExpr → T) → (ℕ → Rule SynExpr) → ℕ → Rule T
linked_rule signs made r k = rule.◌>>=◌ (rule.one signs) (λ o. rule.◌>>=◌ (r k) (λ e. rule.pure (made o e)))

abbrev after_chain : (Lexeme → Bool) → (Lexeme → Bool) → Lexeme → Bool
after_chain is_sign between t = is_sign t || between t

module _ {q : Bool} {n : ℕ} {O T : Type 0} (is_sign : Lexeme → Bool) (signs : Lexeme → Option O) (made : O → SynExpr → T) (r : ℕ → Rule SynExpr)
    (p : ℕ → Reader SynExpr) (between : Lexeme → Bool) where
  pub Exact-chain : Exact q n (suc n) r p between → Exact q n n (λ _. rule.one signs) (λ _. read.one signs) nothing → ((k : ℕ) → TakesSome (r k))
      → ((t : Lexeme) (o : O) → signs t ≡ Some o → is_sign t ≡ true)
      → ((t : Lexeme) → is_sign t ≡ true → between t ≡ false) → n ≤ suc n
      → Exact q n (suc n) (λ k. grammar.chain signs made (r k)) (λ m. reader.chain m is_sign signs made (p m)) (after_chain is_sign between)
  Exact-chain item sign some signed apart_ fewer =
      let starts = λ (k : ℕ). starts-then (rule.one signs) (λ o. rule.◌>>=◌ (r k) (λ e. rule.pure (made o e))) is_sign (starts-one signs is_sign signed) in
      let goes = stops_apart is_sign between apart_ in
      let ends = λ (ts : Left) (e : Stops (after_chain is_sign between) ts). (stops_or is_sign between ts e).1 in
      let quits = λ (ts : Left) (e : Stops (after_chain is_sign between) ts). (stops_or is_sign between ts e).0 in
      let one_more : Exact q n n (linked_rule signs made r) (λ m. reader.linked signs made (p m)) between =
      Exact-last _ _ _ _ between sign (λ o. Exact-made (made o) _ _ between (Exact-fewer n r p between fewer item)) in
      Exact-placed _ _ (after_chain is_sign between) (λ k. takes-then (r k) _ (some k))
      (Exact-after _ _ _ _ between (after_chain is_sign between) (some (suc n)) item
      (λ first. Exact-made (λ more. (first, more)) _ _ (after_chain is_sign between)
      (Exact-many is_sign (linked_rule signs made r) _ between (after_chain is_sign between) one_more (λ k. takes-then _ _ (takes-one signs)) starts
      goes ends quits))
      (λ k first b back rest h stops.
      let is : back ≡ h.front = h.is ∙ ap (λ ts. h.front ++ ts) h.second.0 ∙ append-nil h.front in
      subst (λ ts. Stops between (ts ++ rest)) (sym is)
      (between_items is_sign (reader.linked signs made (p n)) (linked_rule signs made r k) between (after_chain is_sign between)
      (one_more.complete k) (starts k) goes ends quits h.front rest h.value h.first stops)))

-- ---- the levels

abbrev open_signs : List (List ℕ)
open_signs = codes "(" ∷ []

open_apart : (texts : List (List ℕ)) (t : Lexeme) → among (codes "(") texts ≡ false → open_sign t ≡ true → some_symbol texts t ≡ false
open_apart texts t d e = same_symbols (codes "(") texts t e ∙ d

module _ (e : Rule SynExpr) where
  takes-primary : TakesSome (grammar.primary e)
  unfolding grammar.primary
  takes-primary = takes-or _ _ (takes-then _ _ (takes-one (only open_sign))) (takes-then _ _ (takes-placed _ takes-node))

  takes-unary : TakesSome (grammar.unary e)
  unfolding grammar.unary
  takes-unary = takes-or _ _ (takes-then _ _ (takes-placed _ (takes-then _ _ (takes-one prefix_sign)))) takes-primary

  takes-product : TakesSome (grammar.product e)
  unfolding grammar.product
  takes-product = takes-then _ _ (takes-placed _ (takes-then _ _ takes-unary))

  takes-sum : TakesSome (grammar.sum e)
  unfolding grammar.sum
  takes-sum = takes-then _ _ (takes-placed _ (takes-then _ _ takes-product))

  takes-comparison : TakesSome (grammar.comparison e)
  unfolding grammar.comparison
  takes-comparison = takes-then _ _ (takes-placed _ (takes-then _ _ takes-sum))

  takes-all : TakesSome (grammar.all e)
  unfolding grammar.all
  takes-all = takes-then _ _ (takes-placed _ (takes-then _ _ takes-comparison))

  pub takes-any : TakesSome (grammar.any e)
  unfolding grammar.any
  takes-any = takes-then _ _ (takes-placed _ (takes-then _ _ takes-all))

  starts-parentheses : StartsWith (grammar.in_parentheses e) open_sign
  starts-parentheses = starts-then _ _ open_sign (starts-symbol (codes "("))

  -- a primary begins with none of these signs
  avoids-primary : (texts : List (List ℕ)) → among (codes "(") texts ≡ false → Avoids (grammar.primary e) (some_symbol texts)
  unfolding grammar.primary
  avoids-primary texts d = avoids-or _ _ _ (avoids_by _ open_sign (some_symbol texts) starts-parentheses (λ t h. open_apart texts t d h)) (avoids-leaf texts)

-- an operand, and behind it perhaps another part that begins with a sign
bridge_maybe : {A : Type 0} (r : Rule A) (is_sign between : Lexeme → Bool) → StartsWith r is_sign → ((t : Lexeme) → is_sign t ≡ true → between t ≡ false)
    → (used rest : Left) (a : Option A) → rule.maybe r used a → Stops (λ t. is_sign t || between t) rest → Stops between (used ++ rest)
bridge_maybe r is_sign between starts apart_ used rest a (inl h) stops =
    stops_apart is_sign between apart_ (used ++ rest) ((starts-then r _ is_sign starts).begins used rest a h)
bridge_maybe r is_sign between starts apart_ used rest a (inr h) stops =
    subst (λ ts. Stops between (ts ++ rest)) (sym h.0) (stops_or is_sign between rest stops).1

factor_apart : (t : Lexeme) → is_factor_sign t ≡ true → open_sign t ≡ false
factor_apart t e = opens t (apart times_over open_signs t refl e)

term_apart : (t : Lexeme) → is_term_sign t ≡ true → after_product t ≡ false
term_apart t e =
    let p0 = apart plus_minus times_over t refl e in
    let p1 = opens t (apart plus_minus open_signs t refl e) in
    λ i. p0 i || p1 i

comparator_apart : (t : Lexeme) → is_comparator t ≡ true → after_sum t ≡ false
comparator_apart t e =
    let p0 = apart comparators plus_minus t refl e in
    let p1 = apart comparators times_over t refl e in
    let p2 = opens t (apart comparators open_signs t refl e) in
    λ i. p0 i || (p1 i || p2 i)

and_apart : (t : Lexeme) → symbol (codes "&&") t ≡ true → after_comparison t ≡ false
and_apart t e =
    let p0 = same_symbols (codes "&&") comparators t e in
    let p1 = same_symbols (codes "&&") plus_minus t e in
    let p2 = same_symbols (codes "&&") times_over t e in
    let p3 = same_symbol (codes "&&") (codes "(") t e in
    λ i. p0 i || (p1 i || (p2 i || p3 i))

or_apart : (t : Lexeme) → symbol (codes "||") t ≡ true → after_all t ≡ false
or_apart t e =
    let p0 = same_symbol (codes "||") (codes "&&") t e in
    let p1 = same_symbols (codes "||") comparators t e in
    let p2 = same_symbols (codes "||") plus_minus t e in
    let p3 = same_symbols (codes "||") times_over t e in
    let p4 = same_symbol (codes "||") (codes "(") t e in
    λ i. p0 i || (p1 i || (p2 i || (p3 i || p4 i)))

module _ {q : Bool} (n : ℕ) (fewer : n ≤ suc n) (inner : Exact q n n grammar.expression_within reader.expression goes_on) where
  abbrev deep : ℕ → Rule SynExpr
  deep = grammar.expression_within

  abbrev reads : ℕ → Reader SynExpr
  reads = reader.expression

  exact-in_parentheses : Exact q n (suc n) (λ k. grammar.in_parentheses (deep k)) (λ m. reader.in_parentheses (reads m)) nothing
  unfolding reader.in_parentheses
  exact-in_parentheses =
      Exact-last_after _ _ _ _ nothing (takes-one (only open_sign)) (exact-symbol (codes "(") nothing refl)
      (λ _. Exact-before _ _ _ _ goes_on nothing (symbol (codes ")")) inner
      (λ e. Exact-last _ _ _ _ nothing (exact-symbol (codes ")") nothing refl) (λ _. Exact-pure e nothing))
      (λ k e. starts-then _ _ (symbol (codes ")")) (starts-symbol (codes ")"))) close_ends)

  exact-primary : Exact q n (suc n) (λ k. grammar.primary (deep k)) (λ m. reader.primary (reads m)) open_sign
  unfolding grammar.primary reader.primary
  exact-primary =
      Exact-choose open_sign _ _ _ _ open_sign (Exact-narrower _ _ nothing open_sign exact-in_parentheses (λ ts e. stops_nothing ts)) exact-leaf
      (λ k. starts-parentheses (deep k)) (λ k used rest a h stops. leaf_stops used rest a h) where
        leaf_stops : (used rest : Left) (a : SynExpr) → leaf_rule used a → Stops open_sign (used ++ rest)
        leaf_stops used rest a h = (stops_or open_sign nothing (used ++ rest) ((avoids-leaf open_signs).stops used rest a h)).0

  exact-unary : Exact q n (suc n) (λ k. grammar.unary (deep k)) (λ m. reader.unary (reads m)) open_sign
  unfolding grammar.unary reader.unary reader.prefixed_primary
  exact-unary =
      Exact-choose is_prefix_sign _ _ _ _ open_sign
      (Exact-made grammar.at_first _ _ open_sign
      (Exact-placed _ _ open_sign (λ k. takes-then _ _ (takes-one prefix_sign))
      (Exact-last _ _ _ _ open_sign exact-prefix_sign (λ way. Exact-made (grammar.prefixed way) _ _ open_sign exact-primary))))
      exact-primary
      (λ k. starts-then _ _ is_prefix_sign (starts-placed _ is_prefix_sign
      (starts-then _ _ is_prefix_sign (starts-one prefix_sign is_prefix_sign prefix_sign_is))))
      (λ k used rest a h stops. (avoids-primary (deep k) (codes "!" ∷ codes "-" ∷ []) refl).stops used rest a h)

  exact-product : Exact q n (suc n) (λ k. grammar.product (deep k)) (λ m. reader.product (reads m) m) after_product
  unfolding grammar.product reader.product reader.next_factor
  exact-product =
      Exact-made grammar.product_of _ _ after_product
      (Exact-chain is_factor_sign factor_sign grammar.factor (λ k. grammar.unary (deep k)) (λ m. reader.unary (reads m)) open_sign exact-unary
      exact-factor_sign (λ k. takes-unary (deep k)) factor_sign_is factor_apart fewer)

  exact-sum : Exact q n (suc n) (λ k. grammar.sum (deep k)) (λ m. reader.sum (reads m) m) after_sum
  unfolding grammar.sum reader.sum reader.next_term
  exact-sum =
      Exact-made grammar.sum_of _ _ after_sum
      (Exact-chain is_term_sign term_sign grammar.term (λ k. grammar.product (deep k)) (λ m. reader.product (reads m) m) after_product exact-product
      exact-term_sign (λ k. takes-product (deep k)) term_sign_is term_apart fewer)

  exact-compared_with :
      Exact q n (suc n) (λ k. rule.◌>>=◌ (rule.one comparator) (λ way. rule.◌>>=◌ (grammar.sum (deep k)) (λ right. rule.pure (way, right))))
      (λ m. reader.compared_with (reads m) m) after_sum
  unfolding reader.compared_with
  exact-compared_with = Exact-last _ _ _ _ after_sum exact-comparator (λ way. Exact-made (λ right. (way, right)) _ _ after_sum exact-sum)

  starts-compared_with : (k : ℕ)
      → StartsWith {A = Cmp
      × SynExpr} (rule.◌>>=◌ (rule.one comparator) (λ way. rule.◌>>=◌ (grammar.sum (deep k)) (λ right. rule.pure (way, right)))) is_comparator
  starts-compared_with k = starts-then _ _ is_comparator (starts-one comparator is_comparator comparator_is)

  exact-other_side :
      Exact q n (suc n) (λ k. rule.maybe (rule.◌>>=◌ (rule.one comparator)
      (λ way. rule.◌>>=◌ (grammar.sum (deep k)) (λ right. rule.pure (way, right))))) (λ m. reader.other_side (reads m) m) after_comparison
  unfolding reader.other_side
  exact-other_side =
      Exact-maybe is_comparator _ _ after_comparison
      (Exact-narrower _ _ after_sum after_comparison exact-compared_with (λ ts e. (stops_or is_comparator after_sum ts e).1))
      starts-compared_with (λ ts e. (stops_or is_comparator after_sum ts e).0)

  exact-comparison : Exact q n (suc n) (λ k. grammar.comparison (deep k)) (λ m. reader.comparison (reads m) m) after_comparison
  unfolding grammar.comparison reader.comparison
  exact-comparison =
      Exact-made grammar.comparison_of _ _ after_comparison
      (Exact-placed _ _ after_comparison (λ k. takes-then _ _ (takes-sum (deep k)))
      (Exact-then _ _ _ _ after_sum after_comparison exact-sum
      (λ left. Exact-made (λ other. (left, other)) _ _ after_comparison exact-other_side)
      (λ k left b back rest h stops.
      let is : back ≡ h.front = h.is ∙ ap (λ ts. h.front ++ ts) h.second.0 ∙ append-nil h.front in
      subst (λ ts. Stops after_sum (ts ++ rest)) (sym is)
      (bridge_maybe _ is_comparator after_sum (starts-compared_with k) comparator_apart h.front rest h.value h.first stops))))

  exact-all : Exact q n (suc n) (λ k. grammar.all (deep k)) (λ m. reader.all (reads m) m) after_all
  unfolding grammar.all reader.all reader.next_conjunct
  exact-all =
      Exact-made grammar.all_of _ _ after_all
      (Exact-chain (symbol (codes "&&")) (only (symbol (codes "&&"))) grammar.part (λ k. grammar.comparison (deep k)) (λ m. reader.comparison (reads m) m) after_comparison exact-comparison
      (exact-symbol (codes "&&") nothing refl) (λ k. takes-comparison (deep k)) (λ t o e. some_if (symbol (codes "&&") t) o e) and_apart fewer)

  exact-any : Exact q n (suc n) (λ k. grammar.any (deep k)) (λ m. reader.any (reads m) m) goes_on
  unfolding grammar.any reader.any reader.next_disjunct
  exact-any =
      Exact-made grammar.any_of _ _ goes_on
      (Exact-chain (symbol (codes "||")) (only (symbol (codes "||"))) grammar.part (λ k. grammar.all (deep k)) (λ m. reader.all (reads m) m) after_all exact-all
      (exact-symbol (codes "||") nothing refl) (λ k. takes-all (deep k)) (λ t o e. some_if (symbol (codes "||") t) o e) or_apart fewer)

-- ---- some expression

Word-then : {A B : Type 0} (r : Rule A) (s : A → Rule B) → Word r → ((a : A) → Word (s a)) → Word (rule.◌>>=◌ r s)
Word-then r s w v =
    let x = v w.value in
    record {
      used = w.used ++ x.used;
      value = x.value;
      holds =
          record { front = w.used; back = x.used; value = w.value; is = refl; first = w.holds; second = x.holds };
    }

Word-placed : {A : Type 0} (r : Rule A) → Word r → Word (rule.placed r)
Word-placed r w = record { used = w.used; value = (place_of w.used, w.value); holds = (w.holds, refl) }

Word-other : {A : Type 0} (r s : Rule A) → Word s → Word (rule.◌or◌ r s)
Word-other r s w = record { used = w.used; value = w.value; holds = inr w.holds }

Word-pure : {A : Type 0} (a : A) → Word (rule.pure a)
Word-pure a = record { used = []; value = a; holds = (refl, refl) }

Word-none : {A : Type 0} (r : Rule A) → Word (rule.many r)
Word-none r = record { used = []; value = []; holds = refl }

Word-chain : {O T : Type 0} (signs : Lexeme → Option O) (made : O → SynExpr → T) (r : Rule SynExpr) → Word r → Word (grammar.chain signs made r)
Word-chain signs made r w = Word-placed _ (Word-then _ _ w (λ first. Word-then _ _ (Word-none _) (λ more. Word-pure (first, more))))

word-constant : Word (rule.one constant)
unfolding constant
word-constant = record {
  used = record { kind = token.Number; text = codes "0"; place = 0 } ∷ [];
  value = Int 0;
  holds = record { token = record { kind = token.Number; text = codes "0"; place = 0 }; is = refl; gives = refl };
}

pub word-any : (e : Rule SynExpr) → Word (grammar.any e)
unfolding grammar.any grammar.all grammar.comparison grammar.sum grammar.product grammar.unary grammar.primary
word-any e = Word-then _ _ (Word-chain _ _ _ word-all) (λ found. Word-pure (grammar.any_of found)) where
  word-primary : Word (grammar.primary e)
  word-primary = Word-other _ _ (Word-then _ _ (Word-placed _ (Word-other _ _ word-constant)) (λ found. Word-pure (grammar.at_first found)))

  word-product : Word (grammar.product e)
  word-product = Word-then _ _ (Word-chain _ _ _ (Word-other _ _ word-primary)) (λ found. Word-pure (grammar.product_of found))

  word-sum : Word (grammar.sum e)
  word-sum = Word-then _ _ (Word-chain _ _ _ word-product) (λ found. Word-pure (grammar.sum_of found))

  word-comparison : Word (grammar.comparison e)
  word-comparison =
      Word-then _ _ (Word-placed _ (Word-then _ _ word-sum (λ left. Word-then _ _ (Word-other _ _ (Word-pure None)) (λ other. Word-pure (left, other)))))
      (λ found. Word-pure (grammar.comparison_of found))

  word-all : Word (grammar.all e)
  word-all = Word-then _ _ (Word-chain _ _ _ word-comparison) (λ found. Word-pure (grammar.all_of found))

complete-deeper : {q : Bool} (n : ℕ) → Exact q n (suc n) (λ k. grammar.any (grammar.expression_within k)) (λ m. reader.any (reader.expression m) m) goes_on
    → (k : ℕ) → Complete (grammar.expression_within k) (reader.expression (suc n)) goes_on
unfolding reader.expression grammar.expression_within
complete-deeper n x zero = record { reads = λ used rest a h stops. absurd h }
complete-deeper n x (suc k) = x.complete k

agrees-deeper : {q : Bool} (n : ℕ) → Exact q n (suc n) (λ k. grammar.any (grammar.expression_within k)) (λ m. reader.any (reader.expression m) m) goes_on
    → (m : ℕ) → Agrees (reader.expression (suc n)) (reader.expression m)
unfolding reader.expression grammar.expression_within
agrees-deeper n x zero = Agrees-with_spent (reader.expression (suc n))
agrees-deeper n x (suc m) = x.agrees m

deeper : {q : Bool} (n : ℕ) → Exact q n (suc n) (λ k. grammar.any (grammar.expression_within k)) (λ m. reader.any (reader.expression m) m) goes_on
    → Exact q (suc n) (suc n) grammar.expression_within reader.expression goes_on
unfolding reader.expression grammar.expression_within
deeper n x = record { sound = x.sound; complete = complete-deeper n x; agrees = agrees-deeper n x; lasts = x.lasts; quiet = x.quiet }

some_expression : Word (grammar.expression_within 1)
unfolding grammar.expression_within
some_expression = word-any (grammar.expression_within 0)

no_room : {q : Bool} → Exact q 0 0 grammar.expression_within reader.expression goes_on
unfolding reader.expression
no_room = record {
  sound = record {
    ok = λ ts rest a e. cc;
    stuck =
        λ ts rest why e. record {
          used = [];
          is = ap (λ x. x.1) (err_value e);
          holds =
              record { more = some_expression.used; value = some_expression.value; holds = some_expression.holds };
        };
    some = some_expression;
  };
  complete = λ k. record { reads = λ used rest a h stops. inr (record { rest = used ++ rest; is = refl }) };
  agrees = λ m. Agrees-spent (reader.expression m);
  lasts = record { spent = λ ts rest e. let k = ap length (ap (λ x. x.1) (err_value e)) in omega (arith, k) };
  quiet = λ e. Quiet-spent;
}

pub exact-expression : {q : Bool} (n : ℕ) → Exact q n n grammar.expression_within reader.expression goes_on
exact-expression zero = no_room
exact-expression (suc n) = deeper n (exact-any n (omega arith) (exact-expression n))
