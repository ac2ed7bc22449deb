-- Who never fails is never blamed.
use Rattle.std.proofs.Common.{◌≡◌, refl, sym, ◌∙◌, ℕ, List, ◌⊎◌, inl, inr, Option, Some, None, arith}
use Rattle.std.specs.Prelude.{◌≢◌}
use Rattle.cep_outside.specs.Outside.{Rose}
use Rattle.cep_session.specs.declared.status.Status.{Status}
use Rattle.cep_session.specs.declared.status.Status.TheVariants as status
use Rattle.cep_words.specs.declared.options.Options.{Options}
use Rattle.cep_cli.specs.Headline.{IsBlamed}

-- a count that is always 0 never rises
stays : Rose 0 0 → ⊥
stays rose = omega (arith, rose)

words_alone : (s : Status) → (s ≡ status.BadWords) ⊎ (s ≡ status.NoMemory) → (s ≢ status.ReadFault) × (s ≢ status.PatternFault)
words_alone s (inl is) =
    (λ it. let bad : status.BadWords ≡ status.ReadFault = sym is ∙ it in cc, λ it. let bad : status.BadWords ≡ status.PatternFault = sym is ∙ it in cc)
words_alone s (inr is) =
    (λ it. let bad : status.NoMemory ≡ status.ReadFault = sym is ∙ it in cc, λ it. let bad : status.NoMemory ≡ status.PatternFault = sym is ∙ it in cc)

-- where the input and the file count no fault, whatever the output counts
pub not_blamed : (read : Option (Options × List ℕ)) (s : Status) (before now : ℕ)
    → ((options : Options) (name : List ℕ) → read ≡ Some (options, name) → IsBlamed s (record { file = 0; input = 0; output = before })
    (record { file = 0; input = 0; output = now }))
    → (read ≡ None → (s ≡ status.BadWords) ⊎ (s ≡ status.NoMemory)) → (s ≢ status.ReadFault) × (s ≢ status.PatternFault)
not_blamed None s before now blamed refused = words_alone s (refused refl)
not_blamed (Some read) s before now blamed refused =
    let b = blamed read.0 read.1 refl in (λ is. stays (b.input is), λ is. stays (b.file is))
