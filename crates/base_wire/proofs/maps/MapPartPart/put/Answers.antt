use Rattle.base_wire.proofs.maps.MapPartPart.put.Goals as goal

pub returns-clause-fits : goal.returns-clause-fits
returns-clause-fits g c = λ known. c.in_ok-put_map.ensures.fits (λ key inside. known.keys key) known.values
