-- What is read of a printed file is that file.
use Rattle.std.proofs.Common.{◌≡◌, ℕ, List, [], ◌∷◌, length, map, inl, inr, ◌⊎◌, sym, ◌∙◌, subst, append_assoc}
use Rattle.std.specs.Prelude.{Result, Ok, Err}
use Rattle.cep_reading.specs.Lexeme.{Lexeme, lexeme_of}
use Rattle.cep_syntax.specs.declared.fault.SyntaxFault.{SyntaxFault}
use Rattle.cep_syntax.specs.declared.fault.SyntaxFault.TheVariants.{NoMemory, Bad}
use Rattle.cep_syntax.specs.declared.fault.TheConstants.{EXPECTED, GREEDY}
use Rattle.cep_syntax.specs.declared.file.File.{File}
use Rattle.cep_syntax.specs.Grammar.{IsFile}
use Rattle.cep_syntax.specs.Reads.{AreRead, StopsAt, IsUnexpected, IsGreedyAt}
use Rattle.cep_syntax.specs.Whole.{IsRead, IsReadBy, AreReadWithin}
use Rattle.cep_print.specs.Literal.{Text}
use Rattle.cep_print.specs.SameFile.{IsSameFile}
use Rattle.cep_print.specs.ReadBack.{Denotes, IsShallow, GivesBack}

module _ (tokens : List Lexeme) (file : File) (is : IsFile tokens file) where
  goes_on : (before : List Lexeme) (t : Lexeme) → StopsAt tokens before t → ⊥
  goes_on before t stops = stops.no_more (stops.behind, file, subst (λ used. IsFile used file) (stops.is ∙ sym (append_assoc before (t ∷ []) stops.behind)) is)

  no_refusal : (place code end : ℕ) → ((code ≡ EXPECTED) × IsUnexpected tokens end place) ⊎ ((code ≡ GREEDY) × IsGreedyAt tokens place) → ⊥
  no_refusal place code end (inl (e, inl (before, t, stops, other, at))) = goes_on before t stops
  no_refusal place code end (inl (e, inr early)) = early.0.none file is
  no_refusal place code end (inr (e, (before, t, stops, greedy, at))) = goes_on before t stops

  given : (f : File) (end : ℕ) (result : Result File SyntaxFault) → IsSameFile file f → AreRead tokens end result → GivesBack f result
  given f end (Ok g) same h = subst (λ x. IsSameFile x f) (h.only file is) same
  given f end (Err NoMemory) same h = tt
  given f end (Err (Bad place code)) same h = no_refusal place code end h

pub gives_back : (z : Text) (f : File) (result : Result File SyntaxFault) → Denotes z f → IsShallow z → IsRead z result → GivesBack f result
gives_back z f result d shallow h =
    let by : IsReadBy (Ok d.tokens) z result = subst (λ tokens. IsReadBy tokens z result) d.are h in
    let read : AreRead (map (lexeme_of z) d.tokens) (length z) result = subst (λ deep. AreReadWithin deep (map (lexeme_of z) d.tokens) (length z) result) (shallow d.tokens d.are) by in
    given (map (lexeme_of z) d.tokens) d.file d.is f (length z) result d.same read
