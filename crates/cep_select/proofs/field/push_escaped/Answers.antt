use Rattle.cep_select.proofs.QuoteLaws.{escaped-more, escaped-none}
use Rattle.cep_select.proofs.field.push_escaped.Goals as goal

pub loop-byte-init : goal.loop-byte-init
loop-byte-init c = escaped-none c.args.text.now

pub loop-byte-preserved : goal.loop-byte-preserved
loop-byte-preserved c =
    escaped-more c.args.text.now c.loop-byte.text c.push_byte.new.text c.args.bytes.now c.loop-byte.byte-index c.loop-byte-test.true
    c.loop-byte.invariant c.in_ok-push_byte.ensures
