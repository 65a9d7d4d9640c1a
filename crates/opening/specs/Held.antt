-- What a private key holds.
use Rattle.scheme.specs.Keys.{Private, read}
use Rattle.opening.specs.declared.key.PrivateKey.{PrivateKey}

abbrev pub held : PrivateKey → Private
held key = read key.parameters.set key.bytes.now
