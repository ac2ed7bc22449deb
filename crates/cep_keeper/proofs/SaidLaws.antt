-- The values in cells, one after another.
use Rattle.std.proofs.Common.{◌≡◌, refl, sym, ◌∙◌, ap, ℕ, ◌+◌, ◌<◌, ◌≤◌, List, [], ◌∷◌, ◌++◌, length, get_or, drop, append_assoc}
use Rattle.std.specs.Prelude.{Option, Some, None, option_map, option_and_then}
use Rattle.std.proofs.lemmas.List.{drop_more, append-nil, at_drop_all}
use Rattle.cep_event.specs.declared.value.Value.{Value}
use Rattle.cep_keeper.specs.declared.row.Cell.{Cell}
use Rattle.cep_keeper.specs.Said.{value_in, values_in}

abbrev pub behind : List Value → Option (List Value) → Option (List Value)
behind done rest = option_map (λ vs. done ++ vs) rest

behind-more : (done : List Value) (v : Value) (rest : Option (List Value)) → behind done (option_map (λ vs. v ∷ vs) rest) ≡ behind (done ++ v ∷ []) rest
behind-more done v None = refl
behind-more done v (Some vs) = ap Some (sym (append_assoc done (v ∷ []) vs))

step : (cells : List Cell) (i : ℕ) (c : Cell) → i < length cells → c ≡ get_or cells i c → drop i cells ≡ c ∷ drop (i + 1) cells
step cells i c lt is = drop_more cells i c lt ∙ ap (λ x. x ∷ drop (i + 1) cells) (sym is)

pub values_more : (whole : Option (List Value)) (done : List Value) (cells : List Cell) (i : ℕ) (c : Cell) (v : Value) → i < length cells
    → c ≡ get_or cells i c → Some v ≡ value_in c
    → whole ≡ behind done (values_in (drop i cells)) → whole ≡ behind (done ++ v ∷ []) (values_in (drop (i + 1) cells))
values_more whole done cells i c v lt is says h =
    h ∙ ap (λ l. behind done (values_in l)) (step cells i c lt is)
    ∙ ap (λ o. behind done (option_and_then (λ v. option_map (λ vs. v ∷ vs) (values_in (drop (i + 1) cells))) o)) (sym says)
    ∙ behind-more done v (values_in (drop (i + 1) cells))

pub values_stop : (whole : Option (List Value)) (done : List Value) (cells : List Cell) (i : ℕ) (c : Cell) → i < length cells → c ≡ get_or cells i c
    → None ≡ value_in c
    → whole ≡ behind done (values_in (drop i cells)) → None ≡ whole
values_stop whole done cells i c lt is says h =
    sym (h ∙ ap (λ l. behind done (values_in l)) (step cells i c lt is)
    ∙ ap (λ o. behind done (option_and_then (λ v. option_map (λ vs. v ∷ vs) (values_in (drop (i + 1) cells))) o)) (sym says))

pub values_end : (whole : Option (List Value)) (done : List Value) (cells : List Cell) (i : ℕ) → length cells ≤ i
    → whole ≡ behind done (values_in (drop i cells)) → Some done ≡ whole
values_end whole done cells i past h = sym (h ∙ at_drop_all (λ l. behind done (values_in l)) cells i past ∙ ap Some (append-nil done))
