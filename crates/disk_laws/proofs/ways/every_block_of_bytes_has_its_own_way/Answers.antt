use Rattle.disk_laws.proofs.Leading.{led, led_back}
use Rattle.disk_laws.proofs.ways.every_block_of_bytes_has_its_own_way.Goals as goal

pub returns-clause-led : goal.returns-clause-led
returns-clause-led c = led

pub returns-clause-back : goal.returns-clause-back
returns-clause-back c = led_back
