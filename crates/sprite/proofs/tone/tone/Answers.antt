-- By the limit. Assumes nothing.
use Rattle.sprite.proofs.Tones.{tone_high, tone_low}
use Rattle.sprite.proofs.tone.tone.Goals as goal

pub returns-then-digit-threshold : goal.returns-then-digit-threshold
returns-then-digit-threshold c = tone_high c.args.digit c.args.threshold c.requires.0 c.requires.1 c.if-digit-threshold.true

pub returns : goal.returns
returns c = tone_low c.args.digit c.args.threshold c.requires.0 c.requires.1 c.if-digit-threshold.false
