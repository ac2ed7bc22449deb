-- The sizes after each of the ticks, one tick or more ticks later, and the greatest of them.
use Rattle.std.proofs.Common.{◌≡◌, refl, sym, ◌∙◌, ap, List, [], ◌∷◌, ◌++◌, append_assoc, append-nil, length, arith}
use Rattle.std.specs.Prelude.{max}
use Rattle.cep_plan.specs.declared.plan.Plan.{Plan}
use Rattle.cep_plan.specs.Tick.{Tick}
use Rattle.shared_buffer.specs.declared.buffer.Held.{Held}
use Rattle.sharing_laws.specs.Sizes.{sizes_after, sizes_from, sizes_of, greatest_held}

module _ (plan : Plan) where
  -- the sizes of ticks that come one part after another
  pub sizes_from-append : (before xs ys : List Tick) → sizes_from plan before (xs ++ ys) ≡ sizes_from plan before xs ++ sizes_from plan (before ++ xs) ys
  sizes_from-append before [] ys = ap (λ b. sizes_from plan b ys) (sym (append-nil before))
  sizes_from-append before (tick ∷ xs) ys =
      ap (λ l. sizes_after plan (before ++ tick ∷ []) ∷ l)
      (sizes_from-append (before ++ tick ∷ []) xs ys
      ∙ ap (λ b. sizes_from plan (before ++ tick ∷ []) xs ++ sizes_from plan b ys) (append_assoc before (tick ∷ []) xs))

  -- one tick more
  pub sizes_of-push : (ticks : List Tick) (tick : Tick)
      → sizes_of plan (ticks ++ tick ∷ []) ≡ sizes_of plan ticks ++ sizes_after plan (ticks ++ tick ∷ []) ∷ []
  sizes_of-push ticks tick = sizes_from-append [] ticks (tick ∷ [])

  -- there is a size for each tick
  pub sizes_from-length : (before ticks : List Tick) → length (sizes_from plan before ticks) ≡ length ticks
  sizes_from-length before [] = refl
  sizes_from-length before (tick ∷ ticks) = omega (arith, sizes_from-length (before ++ tick ∷ []) ticks)

-- The greatest so far and the next one.
pub greatest_held-push : (sizes : List Held) (held : Held) → greatest_held (sizes ++ held ∷ []) ≡ max (greatest_held sizes) held.events
greatest_held-push [] held = omega arith
greatest_held-push (first ∷ sizes) held = omega (arith, greatest_held-push sizes held)
