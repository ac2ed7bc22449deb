-- The fault of a reading that stopped, by the tokens that were left.
use Rattle.std.specs.Prelude.{ℕ, List, [], ◌∷◌}
use Rattle.cep_reading.specs.Lexeme.{Lexeme}
use Rattle.cep_reading.specs.declared.stop.Stop.{Stop}
use Rattle.cep_reading.specs.declared.stop.Stop.TheVariants as stop
use Rattle.cep_syntax.specs.declared.fault.SyntaxFault.{SyntaxFault}
use Rattle.cep_syntax.specs.declared.fault.SyntaxFault.TheVariants as fault
use Rattle.cep_syntax.specs.declared.fault.TheConstants.{EXPECTED, GREEDY}

abbrev pub place_left : List Lexeme → ℕ → ℕ
place_left [] end = end
place_left (t ∷ ts) end = t.place

abbrev pub fault_of : Stop → List Lexeme → ℕ → SyntaxFault
fault_of stop.NoMemory left end = fault.NoMemory
fault_of stop.Greedy left end = fault.Bad (place_left left end) GREEDY
fault_of stop.Expected left end = fault.Bad (place_left left end) EXPECTED
fault_of stop.Spent left end = fault.Bad (place_left left end) EXPECTED
