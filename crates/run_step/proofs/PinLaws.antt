-- Pins stay over a call of the buffer, and over one call after another.
use Rattle.std.proofs.Common.{◌≡◌, sym, ◌∙◌, ap, inl}
use Rattle.shared_buffer.specs.Slots.{slot_at}
use Rattle.shared_buffer.specs.Content.{Content}
use Rattle.shared_buffer.specs.Release.{KeepsEvents}
use Rattle.run_step.specs.Pins.{KeepsPins}

pub KeepsPins-refl : (buffer : Content) → KeepsPins buffer buffer
KeepsPins-refl buffer = record { stays = λ key row found pinned. found; only = λ key row found. found }

pub KeepsPins-trans : (old middle new : Content) → KeepsPins old middle → KeepsPins middle new → KeepsPins old new
KeepsPins-trans old middle new first later = record {
  stays = λ key row found pinned. later.stays key row (first.stays key row found pinned) pinned;
  only = λ key row found. first.only key row (later.only key row found);
}

-- a put and a hold leave all events alone
pub KeepsPins-same : (old new : Content) → new.events ≡ old.events → KeepsPins old new
KeepsPins-same old new same = record {
  stays = λ key row found pinned. ap (λ events. slot_at events key) same ∙ found;
  only = λ key row found. sym (ap (λ events. slot_at events key) same) ∙ found;
}

-- a release keeps what has a pin
pub KeepsPins-released : (old new : Content) → KeepsEvents old.events new.events new.nodes → KeepsPins old new
KeepsPins-released old new keeps = record { stays = λ key row found pinned. keeps.stays key row found (inl pinned); only = keeps.only }
