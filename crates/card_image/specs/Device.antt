-- What a store on a device shows of itself.
use Rattle.nvm_device.specs.declared.device.Nvm.{Ghosts as NvmGhosts}
use Rattle.card_image.specs.declared.objects.Objects.{Ghosts as ObjectsGhosts}
use Rattle.card_image.specs.declared.image.Image.{Image}

-- the device
abbrev pub device_of : {N O : Type 0} {n : NvmGhosts N} {o : ObjectsGhosts O} → Image N O n o → N
device_of store = store.nvm
