-- A turn of the loop over the links of a pattern.
use Rattle.std.proofs.Common.{◌≡◌, ℕ, suc, ◌-◌, ◌+◌, ◌<◌, ◌≤◌, Bool, true, false, cond, ◌∙◌, ap, arith}
use Rattle.std.specs.Prelude.{codes, Option, Some, None, Ok, Err}
use Rattle.cep_reading.specs.declared.stop.Stop.{Stop}
use Rattle.cep_reading.specs.declared.stop.Stop.TheVariants.{Spent}
use Rattle.cep_reading.specs.Terminal.{symbol}
use Rattle.cep_reading.specs.Reading.{Left, Outcome, Reader, and_then, next_is, links, sign, choose, pure, ◌>>=◌}
use Rattle.cep_syntax.specs.declared.limit.Limits.{Limits}
use Rattle.cep_syntax.specs.declared.link.Building.{Building}
use Rattle.cep_syntax.specs.declared.link.Link.{Link}
use Rattle.cep_syntax.specs.Terminal.{is_limit}
use Rattle.cep_syntax.specs.Links.{added}
use Rattle.cep_syntax.specs.Reader.{any_link, ending}

abbrev Built : Type 0
Built = Building × Option Limits

module _ (room turn : ℕ) (b : Building) (ts mid : Left) where
  abbrev left : ℕ → Building → Reader Built
  left n s = links n (codes ".") is_limit added (λ c. any_link room c.fresh) ending s

  abbrev later : Link → Reader Built
  later l = left (room - (turn + 1)) (added b l)

  abbrev behind : Reader Built
  behind = choose is_limit (ending >>= (λ x. pure (b, Some x))) (any_link room b.fresh >>= later)

  one_more : turn < room → left (room - turn) b ts ≡ left (suc (room - (turn + 1))) b ts
  one_more below = let e : room - turn ≡ suc (room - (turn + 1)) = omega arith in ap (λ n. left n b ts) e

  pub chain_ends : turn < room → next_is (symbol (codes ".")) ts ≡ false → left (room - turn) b ts ≡ Ok ((b, None), ts)
  unfolding links
  chain_ends below sees = one_more below ∙ ap (λ x. cond x (and_then (sign (codes ".") ts) (λ _. behind)) (Ok ((b, None), ts))) sees

  turn_is : turn < room → next_is (symbol (codes ".")) ts ≡ true → sign (codes ".") ts ≡ Ok (tt, mid) → left (room - turn) b ts ≡ behind mid
  unfolding links
  turn_is below sees dot = one_more below ∙ ap (λ x. cond x (and_then (sign (codes ".") ts) (λ _. behind)) (Ok ((b, None), ts))) sees ∙ ap (λ o. and_then o (λ _. behind)) dot

  module _ (below : turn < room) (sees : next_is (symbol (codes ".")) ts ≡ true) where
    pub chain_no_dot : (why : Stop) (rest : Left) → sign (codes ".") ts ≡ Err (why, rest) → left (room - turn) b ts ≡ Err (why, rest)
    unfolding links
    chain_no_dot why rest e = one_more below ∙ ap (λ x. cond x (and_then (sign (codes ".") ts) (λ _. behind)) (Ok ((b, None), ts))) sees ∙ ap (λ o. and_then o (λ _. behind)) e

    module _ (dot : sign (codes ".") ts ≡ Ok (tt, mid)) where
      abbrev by : Bool → Outcome Built
      by x = cond x (and_then (ending mid) (λ y. pure (b, Some y))) (and_then (any_link room b.fresh mid) later)

      pub chain_limit : (limits : Limits) (rest : Left) → next_is is_limit mid ≡ true → ending mid ≡ Ok (limits, rest)
          → left (room - turn) b ts ≡ Ok ((b, Some limits), rest)
      chain_limit limits rest within e = turn_is below sees dot ∙ ap by within ∙ ap (λ o. and_then o (λ y. pure (b, Some y))) e

      pub chain_no_limit : (why : Stop) (rest : Left) → next_is is_limit mid ≡ true → ending mid ≡ Err (why, rest) → left (room - turn) b ts ≡ Err (why, rest)
      chain_no_limit why rest within e = turn_is below sees dot ∙ ap by within ∙ ap (λ o. and_then o (λ y. pure (b, Some y))) e

      pub chain_step : (l : Link) (rest : Left) → next_is is_limit mid ≡ false → any_link room b.fresh mid ≡ Ok (l, rest)
          → left (room - turn) b ts ≡ left (room - (turn + 1)) (added b l) rest
      chain_step l rest within e = turn_is below sees dot ∙ ap by within ∙ ap (λ o. and_then o later) e

      pub chain_no_link : (why : Stop) (rest : Left) → next_is is_limit mid ≡ false → any_link room b.fresh mid ≡ Err (why, rest)
          → left (room - turn) b ts ≡ Err (why, rest)
      chain_no_link why rest within e = turn_is below sees dot ∙ ap by within ∙ ap (λ o. and_then o later) e

  pub chain_spent : room ≤ turn → left (room - turn) b ts ≡ Err (Spent, ts)
  unfolding links
  chain_spent over = let none : room - turn ≡ 0 = omega arith in ap (λ n. left n b ts) none
