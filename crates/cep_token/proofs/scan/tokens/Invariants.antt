use Rattle.std.proofs.Common.{◌≡◌, ◌-◌, ◌≤◌, length, drop}
use Rattle.std.specs.Prelude.{All}
use Rattle.cep_token.specs.Within.{IsWithin, AreInOrder}
use Rattle.cep_token.specs.Tokens.{with_front, tokens_from, tokens_of}
use Rattle.cep_token.proofs.TokenLemmas.{end_of}
use Rattle.cep_token.proofs.scan.tokens.Given as goal

abbrev pub invariant-loop-place : goal.invariant-loop-place
invariant-loop-place l = record {
  so_far : with_front l.found (tokens_from l.place 0 (drop l.place l.text)) ≡ tokens_of l.text;
  in_text : l.place ≤ length l.text;
  within : All (IsWithin l.text) l.found;
  order : AreInOrder 0 l.found;
  last : end_of 0 l.found ≤ l.place;
}

abbrev pub decreases-loop-place : goal.decreases-loop-place
decreases-loop-place l = length l.text - l.place
