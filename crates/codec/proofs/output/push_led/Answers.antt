use Rattle.codec.proofs.Texts.{led_none, led_more}
use Rattle.codec.proofs.output.push_led.Goals as goal

pub loop-number-init : goal.loop-number-init
loop-number-init c = led_none _ _ c.args.numbers.now

pub loop-number-preserved : goal.loop-number-preserved
loop-number-preserved c =
    led_more _ _ _ c.args.before.now c.args.numbers.now c.loop-number.number-index c.loop-number-test.true c.loop-number.invariant
    c.in_ok-write.ensures.bytes
