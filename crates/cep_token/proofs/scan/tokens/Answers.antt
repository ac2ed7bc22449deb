use Rattle.std.proofs.Common.{◌+◌, arith}
use Rattle.cep_token.specs.declared.token.Token.{Token}
use Rattle.cep_token.specs.Tokens.{tokens_of, tokens_from}
use Rattle.std.proofs.lemmas.List.Elements.{All-push}
use Rattle.cep_token.specs.Within.{IsWithin}
use Rattle.cep_token.proofs.TokenLemmas.{with_front-none, keeps_gap, keeps_token, stays_within, is_within, in_order-push, end_of-push}
use Rattle.cep_token.proofs.scan.tokens.Goals as goal

pub loop-place-init : goal.loop-place-init
unfolding tokens_of
loop-place-init c = record {
  so_far = rw c.new-found.ensures (with_front-none (tokens_from 0 0 c.as_bytes-text.result.now));
  in_text = omega arith;
  within = rw c.new-found.ensures (λ k d lt. absurd (omega arith));
  order = rw c.new-found.ensures tt;
  last = rw c.new-found.ensures (omega arith);
}

pub loop-place-preserved-in-Gap : goal.loop-place-preserved-in-Gap
loop-place-preserved-in-Gap c =
    let text = c.as_bytes-text.result.now in
    let i = c.loop-place.invariant in
    record {
      so_far = keeps_gap text c.loop-place.found c.loop-place.place c.in-Gap.len _ i.so_far c.in-Gap.ensures.value c.in-Gap.ensures.within;
      in_text = stays_within text c.loop-place.found c.loop-place.place c.in-Gap.len i.in_text c.in-Gap.ensures.within.1;
      within = i.within;
      order = i.order;
      last = omega (arith, i.last);
    }

pub loop-place-preserved : goal.loop-place-preserved
loop-place-preserved c =
    let text = c.as_bytes-text.result.now in
    let i = c.loop-place.invariant in
    let found = c.loop-place.found in
    let place = c.loop-place.place in
    let token : Token = record { kind = c.in-Token.kind; start = place; end = place + c.in-Token.len } in
    record {
      so_far =
          rw c.in_ok-push-in-Token.ensures.ok (keeps_token text found place c.in-Token.len c.in-Token.kind _ i.so_far c.in-Token.ensures.value
          c.in-Token.ensures.within);
      in_text = stays_within text found place c.in-Token.len i.in_text c.in-Token.ensures.within.1;
      within = rw c.in_ok-push-in-Token.ensures.ok
          (All-push (IsWithin text) found token i.within
          (is_within text found place c.in-Token.len c.in-Token.kind i.in_text c.in-Token.ensures.value c.in-Token.ensures.within));
      order = rw c.in_ok-push-in-Token.ensures.ok (in_order-push 0 found token i.order i.last);
      last = rw c.in_ok-push-in-Token.ensures.ok (rw (end_of-push 0 found token) (omega arith));
    }
