-- Names and values that the kernel and udev give or read, as far as the lints know them: of Linux 6.12 and systemd 257, as of
-- 28 November 2026. A name that is in no table is no fault.
use Rattle.std.specs.Prelude.{List, [], ◌∷◌, ◌++◌, codes}
use Rattle.text_bytes.specs.Text.{Text}

-- what ACTION may be: lib/kobject_uevent.c, `kobject_actions`
abbrev pub actions : List Text
actions = codes "add" ∷ codes "remove" ∷ codes "change" ∷ codes "move" ∷ codes "online" ∷ codes "offline" ∷ codes "bind" ∷ codes "unbind" ∷ []

-- what the attribute `removable` may be, of disks and memory, and of USB and PCI devices: block/genhd.c and
-- drivers/base/core.c, `removable_show`
abbrev pub removable_values : List Text
removable_values = codes "0" ∷ codes "1" ∷ codes "removable" ∷ codes "fixed" ∷ codes "unknown" ∷ []

-- what CONST{arch} may be: src/basic/architecture.c, `architecture_table`; udev(7) refers to ConditionArchitecture= of
-- systemd.unit(5)
abbrev pub architectures : List Text
architectures =
    codes "alpha" ∷ codes "arc" ∷ codes "arc-be" ∷ codes "arm" ∷ codes "arm-be" ∷ codes "arm64" ∷ codes "arm64-be" ∷ codes "cris"
    ∷ codes "ia64" ∷ codes "loongarch64" ∷ codes "m68k" ∷ codes "mips" ∷ codes "mips-le" ∷ codes "mips64" ∷ codes "mips64-le"
    ∷ codes "nios2" ∷ codes "parisc" ∷ codes "parisc64" ∷ codes "ppc" ∷ codes "ppc-le" ∷ codes "ppc64" ∷ codes "ppc64-le"
    ∷ codes "riscv32" ∷ codes "riscv64" ∷ codes "s390" ∷ codes "s390x" ∷ codes "sh" ∷ codes "sh64" ∷ codes "sparc" ∷ codes "sparc64"
    ∷ codes "tilegx" ∷ codes "x86" ∷ codes "x86-64" ∷ []

-- subsystems: the names of folders in /sys/bus and /sys/class
abbrev pub subsystems : List Text
subsystems =
    codes "acpi" ∷ codes "backlight" ∷ codes "block" ∷ codes "bluetooth" ∷ codes "bsg" ∷ codes "cpu" ∷ codes "dmi" ∷ codes "drm"
    ∷ codes "firmware" ∷ codes "graphics" ∷ codes "hid" ∷ codes "hidraw" ∷ codes "hwmon" ∷ codes "i2c" ∷ codes "i2c-dev"
    ∷ codes "ieee80211" ∷ codes "iio" ∷ codes "infiniband" ∷ codes "input" ∷ codes "leds" ∷ codes "mem" ∷ codes "memory"
    ∷ codes "misc" ∷ codes "mmc" ∷ codes "module" ∷ codes "mtd" ∷ codes "net" ∷ codes "nvme" ∷ codes "pci" ∷ codes "platform"
    ∷ codes "power_supply" ∷ codes "ptp" ∷ codes "rfkill" ∷ codes "rtc" ∷ codes "scsi" ∷ codes "scsi_generic" ∷ codes "scsi_host"
    ∷ codes "serio" ∷ codes "sound" ∷ codes "spi" ∷ codes "thunderbolt" ∷ codes "tpm" ∷ codes "tty" ∷ codes "typec" ∷ codes "usb"
    ∷ codes "usbmisc" ∷ codes "video4linux" ∷ codes "virtio" ∷ codes "watchdog" ∷ codes "wmi" ∷ []

-- attributes of four hexadecimal digits: drivers/usb/core/sysfs.c, `usb_descriptor_attr_le16`, and drivers/input/input.c,
-- `INPUT_DEV_ID_ATTR`
abbrev pub four_digit_names : List Text
four_digit_names =
    codes "idVendor" ∷ codes "idProduct" ∷ codes "bcdDevice" ∷ codes "id/vendor" ∷ codes "id/product" ∷ codes "id/version" ∷ codes "id/bustype" ∷ []

-- attributes of two hexadecimal digits: drivers/usb/core/sysfs.c, `usb_descriptor_attr` and `usb_intf_attr`
abbrev pub two_digit_names : List Text
two_digit_names =
    codes "bDeviceClass" ∷ codes "bDeviceSubClass" ∷ codes "bDeviceProtocol" ∷ codes "bInterfaceNumber" ∷ codes "bInterfaceClass"
    ∷ codes "bInterfaceSubClass" ∷ codes "bInterfaceProtocol" ∷ codes "bNumEndpoints" ∷ []

-- attributes of USB devices and their interfaces, which no property is named by
abbrev pub usb_names : List Text
usb_names =
    codes "idVendor" ∷ codes "idProduct" ∷ codes "bcdDevice" ∷ codes "bDeviceClass" ∷ codes "bDeviceSubClass" ∷ codes "bDeviceProtocol"
    ∷ codes "bNumConfigurations" ∷ codes "bNumInterfaces" ∷ codes "bInterfaceNumber" ∷ codes "bInterfaceClass"
    ∷ codes "bInterfaceSubClass" ∷ codes "bInterfaceProtocol" ∷ codes "bAlternateSetting" ∷ codes "bNumEndpoints"
    ∷ codes "bConfigurationValue" ∷ codes "bMaxPower" ∷ []

-- attributes: the same, and others that rules look at
abbrev pub attribute_names : List Text
attribute_names =
    usb_names
    ++ (codes "address" ∷ codes "authorized" ∷ codes "busnum" ∷ codes "device/model" ∷ codes "device/vendor" ∷ codes "devnum"
    ∷ codes "id/bustype" ∷ codes "id/product" ∷ codes "id/vendor" ∷ codes "id/version" ∷ codes "manufacturer" ∷ codes "model"
    ∷ codes "power/autosuspend" ∷ codes "power/control" ∷ codes "power/wakeup" ∷ codes "product" ∷ codes "queue/read_ahead_kb"
    ∷ codes "queue/rotational" ∷ codes "queue/scheduler" ∷ codes "removable" ∷ codes "serial" ∷ codes "subsystem_device"
    ∷ codes "subsystem_vendor" ∷ codes "vendor" ∷ [])

-- properties that the kernel and udev set, and those that systemd and udev's users read
abbrev pub property_names : List Text
property_names =
    codes "DEVTYPE" ∷ codes "ID_BUS" ∷ codes "ID_FS_LABEL" ∷ codes "ID_FS_TYPE" ∷ codes "ID_FS_USAGE" ∷ codes "ID_FS_UUID"
    ∷ codes "ID_INPUT_JOYSTICK" ∷ codes "ID_INPUT_KEY" ∷ codes "ID_INPUT_KEYBOARD" ∷ codes "ID_INPUT_MOUSE"
    ∷ codes "ID_INPUT_TABLET" ∷ codes "ID_INPUT_TOUCHPAD" ∷ codes "ID_INPUT_TOUCHSCREEN" ∷ codes "ID_MM_DEVICE_IGNORE"
    ∷ codes "ID_MODEL" ∷ codes "ID_MODEL_ENC" ∷ codes "ID_MODEL_FROM_DATABASE" ∷ codes "ID_MODEL_ID" ∷ codes "ID_NET_DRIVER"
    ∷ codes "ID_PART_ENTRY_NAME" ∷ codes "ID_PART_ENTRY_TYPE" ∷ codes "ID_PART_ENTRY_UUID" ∷ codes "ID_PATH" ∷ codes "ID_PATH_TAG"
    ∷ codes "ID_REVISION" ∷ codes "ID_SERIAL" ∷ codes "ID_SERIAL_SHORT" ∷ codes "ID_TYPE" ∷ codes "ID_USB_DRIVER"
    ∷ codes "ID_USB_INTERFACES" ∷ codes "ID_USB_INTERFACE_NUM" ∷ codes "ID_VENDOR" ∷ codes "ID_VENDOR_ENC"
    ∷ codes "ID_VENDOR_FROM_DATABASE" ∷ codes "ID_VENDOR_ID" ∷ codes "INTERFACE" ∷ codes "LIBINPUT_IGNORE_DEVICE" ∷ codes "MODALIAS"
    ∷ codes "PRODUCT" ∷ codes "SYSTEMD_ALIAS" ∷ codes "SYSTEMD_MOUNT_WHERE" ∷ codes "SYSTEMD_READY" ∷ codes "SYSTEMD_USER_WANTS"
    ∷ codes "SYSTEMD_WANTS" ∷ codes "UDISKS_IGNORE" ∷ []

-- attributes that the kernel lets no one write: of USB devices (drivers/usb/core/sysfs.c), of disks (block/genhd.c) and of
-- network cards (net/core/net-sysfs.c)
abbrev pub fixed_attributes : List Text
fixed_attributes =
    codes "idVendor" ∷ codes "idProduct" ∷ codes "bcdDevice" ∷ codes "bDeviceClass" ∷ codes "bDeviceSubClass" ∷ codes "bDeviceProtocol"
    ∷ codes "bInterfaceNumber" ∷ codes "bInterfaceClass" ∷ codes "bInterfaceSubClass" ∷ codes "bInterfaceProtocol" ∷ codes "manufacturer"
    ∷ codes "product" ∷ codes "serial" ∷ codes "busnum" ∷ codes "devnum" ∷ codes "removable" ∷ codes "partition" ∷ codes "address"
    ∷ codes "ifindex" ∷ codes "modalias" ∷ []

-- properties by which rules tell devices apart, which udev's own rules set
abbrev pub telling_properties : List Text
telling_properties =
    codes "ID_BUS" ∷ codes "ID_FS_LABEL" ∷ codes "ID_FS_TYPE" ∷ codes "ID_FS_UUID" ∷ codes "ID_MODEL" ∷ codes "ID_MODEL_ID"
    ∷ codes "ID_PATH" ∷ codes "ID_SERIAL" ∷ codes "ID_SERIAL_SHORT" ∷ codes "ID_TYPE" ∷ codes "ID_USB_DRIVER"
    ∷ codes "ID_USB_INTERFACE_NUM" ∷ codes "ID_VENDOR" ∷ codes "ID_VENDOR_ID" ∷ []

-- subsystems whose devices systemd's own rules do not tag: 99-systemd.rules of systemd 257
abbrev pub untagged_subsystems : List Text
untagged_subsystems =
    codes "hid" ∷ codes "hidraw" ∷ codes "i2c" ∷ codes "input" ∷ codes "pci" ∷ codes "power_supply" ∷ codes "scsi" ∷ codes "usb"
    ∷ codes "usbmisc" ∷ codes "video4linux" ∷ []

-- keys that change a device, its node or its names, or run a command: udev(7)
abbrev pub changing_keys : List Text
changing_keys =
    codes "OWNER" ∷ codes "GROUP" ∷ codes "MODE" ∷ codes "SECLABEL" ∷ codes "NAME" ∷ codes "SYMLINK" ∷ codes "ATTR" ∷ codes "SYSCTL"
    ∷ codes "RUN" ∷ []

-- how substitutions begin: udev(7)
abbrev pub substitutions : List Text
substitutions =
    codes "%k" ∷ codes "%n" ∷ codes "%p" ∷ codes "%b" ∷ codes "%s{" ∷ codes "%E{" ∷ codes "%M" ∷ codes "%m" ∷ codes "%c" ∷ codes "%P"
    ∷ codes "%N" ∷ codes "%r" ∷ codes "%S" ∷ codes "$kernel" ∷ codes "$number" ∷ codes "$devpath" ∷ codes "$id" ∷ codes "$driver"
    ∷ codes "$attr{" ∷ codes "$env{" ∷ codes "$major" ∷ codes "$minor" ∷ codes "$result" ∷ codes "$parent" ∷ codes "$name"
    ∷ codes "$links" ∷ codes "$root" ∷ codes "$sys" ∷ codes "$devnode" ∷ []

-- how mistaken substitutions begin: a long name after a `%`, a word of the result without braces, and an attribute among
-- the properties, or the other way round
abbrev pub mistaken_substitutions : List Text
mistaken_substitutions =
    codes "%kernel" ∷ codes "%number" ∷ codes "%major" ∷ codes "%minor" ∷ codes "%name" ∷ codes "%parent" ∷ codes "%result"
    ∷ codes "%root" ∷ codes "%c1" ∷ codes "%c2" ∷ codes "%c3" ∷ codes "%c4" ∷ codes "%c5" ∷ codes "%c6" ∷ codes "%c7" ∷ codes "%c8"
    ∷ codes "%c9" ∷ codes "$result[" ∷ codes "%E{id" ∷ codes "$env{id" ∷ codes "%s{ID_" ∷ codes "$attr{ID_" ∷ []
